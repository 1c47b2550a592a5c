-- The one answer convention of the exported functions.
use Rattle.law.specs.Refusal.{code_of, value_of, second_of}
use Rattle.law.specs.Refusal as law
use Rattle.stand_c.specs.declared.Answer.{Answer}
use Rattle.stand_c.specs.declared.ReplayAnswer.{ReplayAnswer}

-- 0 and the answer's value, or the refusal's number in documents 01 and 02 and its row or place, 0 where there is none
abbrev pub numbered : law.Answer → Answer
numbered a = record { refusal = code_of a; value = value_of a }

-- the same with a second value, 0 where there is none
abbrev pub numbered_two : law.Answer → ReplayAnswer
numbered_two a = record { refusal = code_of a; value = value_of a; used = second_of a }
