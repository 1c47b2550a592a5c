-- How the enum `Refusal` is read: its number in documents 01 and 02, and the row or place that is also returned. And how the answers are read that are a
-- `Result` whose error it is.
use Rattle.std.specs.Prelude.{List, [], ◌∷◌, ℕ, Option, None, Some, Result, Ok, Err}
use Rattle.law.specs.Refusal.{Answer, accepted, refused}
use Rattle.refusal.specs.declared.Refusal.{Refusal}
use Rattle.refusal.specs.declared.Refusal.TheVariants.{NotWholeRows, NoRows, ManyRows, Id, T, D, C, K, M, Repeated, Unschedulable, Text, Room, State, Clock, P, NotOld, Log}

abbrev pub number_of : Refusal → ℕ
number_of NotWholeRows = 1
number_of NoRows = 2
number_of ManyRows = 3
number_of (Id row) = 4
number_of (T row) = 5
number_of (D row) = 6
number_of (C row) = 7
number_of (K row) = 8
number_of (M row) = 9
number_of (Repeated row) = 10
number_of (Unschedulable row) = 11
number_of (Text place) = 12
number_of Room = 13
number_of State = 14
number_of Clock = 15
number_of (P row) = 16
number_of (NotOld row) = 17
number_of (Log place) = 18

abbrev pub also_of : Refusal → List ℕ
also_of NotWholeRows = []
also_of NoRows = []
also_of ManyRows = []
also_of (Id row) = row ∷ []
also_of (T row) = row ∷ []
also_of (D row) = row ∷ []
also_of (C row) = row ∷ []
also_of (K row) = row ∷ []
also_of (M row) = row ∷ []
also_of (Repeated row) = row ∷ []
also_of (Unschedulable row) = row ∷ []
also_of (Text place) = place ∷ []
also_of Room = []
also_of State = []
also_of Clock = []
also_of (P row) = row ∷ []
also_of (NotOld row) = row ∷ []
also_of (Log place) = place ∷ []

-- the row or place as the code has it
abbrev pub listed : Option ℕ → List ℕ
listed None = []
listed (Some v) = v ∷ []

abbrev pub shown : Refusal → Answer
shown r = refused (number_of r) (also_of r)

-- a call that gives one number: accepted with it, or the refusal
abbrev pub answered : Result ℕ Refusal → Answer
answered (Ok n) = accepted (n ∷ [])
answered (Err r) = shown r

-- a call that gives nothing more
abbrev pub done : Result Unit Refusal → Answer
done (Ok u) = accepted []
done (Err r) = shown r
