-- Document 02, 5/14: what holds of every replay, whatever the words and the log, from the law's chapters ReplayAnswers and ReplayExact.
use mathlib.Core.List.{List, [], ◌∷◌}
use mathlib.Core.Path.{◌≡◌, refl}
use Prim.Native.Nat.{ℕ}
use native.Mathlib.Omega.{arith}
use Rattle.law.specs.Refusal.{refused}
use Rattle.law.specs.Replay.{replay_answer}
use Rattle.law.proofs.Replay.{replay_refused}
use Rattle.law.proofs.ReplayAnswers.{full_words, full_answered, replay_saved, unread_same, longer_same, stopped_same, pieces_whole, pieces_second}
use Rattle.law.proofs.ReplayExact.{replay_kept_words, exact_many, exact_within, exact_good, exact_stop, exact_first}
use Rattle.promise.specs.Replayed.{FirstBad, Replays}

first_bad : (words : List ℕ) (n : ℕ) (log : List ℕ) (q : ℕ) → replay_answer words n log ≡ refused 18 (q ∷ []) → FirstBad words n log q
first_bad words n log q e =
    let b = exact_first words n log q e in
    record { tick = b.tick; sooner = b.sooner; enough = b.enough; used = b.used; bad = b.bad; good = b.good }

pub replays : (words : List ℕ) (n : ℕ) → Replays words n
replays words n =
    record {
      full_state = full_words words n;
      full_answer = full_answered words n;
      refused_too = λ log k also e. (replay_refused words n log k also e).0;
      kept = replay_kept_words words n;
      well = replay_saved words n;
      unread = λ log other done used e same agrees. unread_same words n log other done used e (omega arith) agrees same;
      longer = λ log other used e long agrees. longer_same words n log other n used e long agrees refl;
      stopped = stopped_same words n;
      pieces = λ log used e u d v f. pieces_whole words n log used e u d v f;
      second_piece = λ log used e u done all f. pieces_second words n log used e u done all f;
      exact_used = λ log done used e. (exact_many words n log done used e, exact_good words n log done used e);
      exact_stop = λ log done used e. (exact_within words n log done used e, exact_stop words n log done used e);
      exact_bad = first_bad words n;
    }
