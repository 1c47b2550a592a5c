-- Document 02, 5/14, over the answers of the replay and the words that it hands back: "For an admitted table demand 3 holds here too, response time
-- as an upper bound". Each is named by the definition that the function's contract cites.
use Rattle.std.specs.Prelude.{true, false, List, ◌∷◌, [], ◌≡◌, ℕ, suc, ◌+◌, ◌-◌, ◌≤◌, ◌<◌, leb, length, get_or, drop}
use Rattle.law.specs.Sums.{among}
use Rattle.law.specs.Refusal.{accepted, refused, within, second_of}
use Rattle.law.specs.Table.{kind_of}
use Rattle.law.specs.Tick.{Outcome, no_row, marks}
use Rattle.law.specs.State.{state_of, saved_well, run_answer, run_words}
use Rattle.law.specs.Replay.{Replay, released_rows, replay_answer, replay_words, full_log}
use Rattle.law.specs.Promise.{settling_in, took_by}
use Rattle.promise.specs.Promised.{begun, reported, rows_in, row_in, deadline_of}

-- what `replay::replay_words` hands back and reports after t ticks of the fresh state with a log
abbrev pub replay_at : List ℕ → List ℕ → ℕ → Replay
replay_at table log t =
    record {
      state = state_of (replay_words (begun table) t log);
      ticks = t;
      used = second_of (replay_answer (begun table) t log);
    }

-- what becomes of row i's live job at the end of tick t, in which the jobs that are released have the next lengths of the log
abbrev pub settling_at : List ℕ → List ℕ → ℕ → ℕ → Outcome
settling_at table log i t = settling_in (released_rows log (replay_at table log t)) i

-- the ticks that job a of row i took, D + 1 where it did not finish by its deadline
abbrev pub took_with : List ℕ → List ℕ → ℕ → ℕ → ℕ
took_with table log i a = took_by (settling_at table log i) (row_in table i) a

-- Of a table that `verdict::judge` admits and a replay from fresh that did `done` ticks: a replay of each smaller number of ticks does just these
-- (`each`); "every mandatory job whose deadline has come finished by it, none took longer than its row's reported response time" (`meets` with
-- `soon`); "any k consecutive jobs of a task whose deadlines have all come include at least m finished in time" (`windows`); and in every state on
-- the way no mandatory job was missed, no window broke, and each window holds at least m met marks.
pub record ReplayPromised (table room log : List ℕ) (done : ℕ) : Type 0 where
  pub each : (t : ℕ) → t ≤ done → replay_answer (begun table) t log ≡ accepted (t ∷ (replay_at table log t).used ∷ [])
  pub soon : (i : ℕ) → i < rows_in table → reported table room i ≤ (row_in table i).d
  pub meets : (i a : ℕ) → i < rows_in table → kind_of (row_in table i) a ≡ true → deadline_of table i a ≤ done
      → took_with table log i a ≤ reported table room i
  pub windows : (i a : ℕ) → i < rows_in table → deadline_of table i (a + ((row_in table i).k - 1)) ≤ done
      → (row_in table i).m ≤ among (λ a. leb (took_with table log i a) (row_in table i).d) a (row_in table i).k
  pub no_miss : (i t : ℕ) → i < rows_in table → t ≤ done → (get_or (replay_at table log t).state.rows i no_row).tally.mx ≡ 0
  pub no_break : (i t : ℕ) → i < rows_in table → t ≤ done → (get_or (replay_at table log t).state.rows i no_row).tally.broken ≡ 0
  pub enough : (i t : ℕ) → i < rows_in table → t ≤ done
      → (row_in table i).m ≤ marks (row_in table i).k (get_or (replay_at table log t).state.rows i no_row).tally.window

-- Which number is "the first number out of range that a release before the stop would use", said without a replay. No release turns on a length, so the
-- number at place q is for the job whose C stands at place q of the run's own log (`full_log`). The log has enough numbers for all ticks up to `tick`, one
-- of those asked for; number q is for a job released in one of them and is not 1 to that job's C; every number before it is.
pub record FirstBad (words : List ℕ) (n : ℕ) (log : List ℕ) (q : ℕ) : Type 0 where
  pub tick : ℕ
  pub sooner : tick < n
  pub enough : length (full_log (suc tick) (state_of words)) ≤ length log
  pub used : q < length (full_log (suc tick) (state_of words))
  pub bad : within 1 (get_or (full_log (suc tick) (state_of words)) q 0) (get_or log q 0) ≡ false
  pub good : (p : ℕ) → p < q → within 1 (get_or (full_log (suc tick) (state_of words)) p 0) (get_or log p 0) ≡ true

-- Of any words and any log. The run is the replay of full-length jobs (`full_state`, `full_answer`); a refused run is a refused replay whatever the
-- log; a refused replay, by whatever number, hands back the words that it got (`kept`); a well-formed state is handed back well formed. Numbers
-- that no release before the stop would use are not looked at (`unread`), and where all n ticks were done more numbers change nothing (`longer`). A
-- replay that stopped is that of the ticks it did (`stopped`), so it can be gone on with when more numbers have come: from the words handed back,
-- with the rest of the log, it is one replay of the whole log (`pieces`), ticks and numbers add up, and the second piece is accepted where the
-- whole is (`second_piece`). What the answers say, told without a replay: an accepted one used one number for each job that the run of the ticks
-- done releases, each 1 to that job's C (`exact_used`), and it stopped before the first tick that releases more jobs than the log has left, no
-- sooner (`exact_stop`); one refused by 18 tells the first number out of range (`exact_bad`).
pub record Replays (words : List ℕ) (n : ℕ) : Type 0 where
  pub full_state : replay_words words n (full_log n (state_of words)) ≡ run_words words n
  pub full_answer : run_answer words n ≡ accepted []
      → replay_answer words n (full_log n (state_of words)) ≡ accepted (n ∷ length (full_log n (state_of words)) ∷ [])
  pub refused_too : (log : List ℕ) (k : ℕ) (also : List ℕ) → run_answer words n ≡ refused k also → replay_answer words n log ≡ refused k also
  pub kept : (log : List ℕ) (k : ℕ) (also : List ℕ) → replay_answer words n log ≡ refused k also → replay_words words n log ≡ words
  pub well : (log : List ℕ) → saved_well words ≡ true → saved_well (replay_words words n log) ≡ true
  pub unread : (log other : List ℕ) (done used : ℕ) → replay_answer words n log ≡ accepted (done ∷ used ∷ []) → length other ≡ length log
      → ((q : ℕ) → q < used → get_or other q 0 ≡ get_or log q 0)
      → (replay_answer words n other ≡ replay_answer words n log) × (replay_words words n other ≡ replay_words words n log)
  pub longer : (log other : List ℕ) (used : ℕ) → replay_answer words n log ≡ accepted (n ∷ used ∷ []) → length log ≤ length other
      → ((q : ℕ) → q < used → get_or other q 0 ≡ get_or log q 0)
      → (replay_answer words n other ≡ replay_answer words n log) × (replay_words words n other ≡ replay_words words n log)
  pub stopped : (log : List ℕ) (done used : ℕ) → replay_answer words n log ≡ accepted (done ∷ used ∷ [])
      → (replay_answer words done log ≡ replay_answer words n log) × (replay_words words done log ≡ replay_words words n log)
  pub pieces : (log : List ℕ) (used : ℕ) → replay_answer words n log ≡ accepted (n ∷ used ∷ [])
      → (u d v : ℕ) → replay_answer (replay_words words n log) u (drop used log) ≡ accepted (d ∷ v ∷ [])
      → (replay_answer words (n + u) log ≡ accepted ((n + d) ∷ (used + v) ∷ []))
      × (replay_words (replay_words words n log) u (drop used log) ≡ replay_words words (n + u) log)
  pub second_piece : (log : List ℕ) (used : ℕ) → replay_answer words n log ≡ accepted (n ∷ used ∷ [])
      → (u done all : ℕ) → replay_answer words (n + u) log ≡ accepted (done ∷ all ∷ [])
      → replay_answer (replay_words words n log) u (drop used log) ≡ accepted ((done - n) ∷ (all - used) ∷ [])
  pub exact_used : (log : List ℕ) (done used : ℕ) → replay_answer words n log ≡ accepted (done ∷ used ∷ [])
      → (used ≡ length (full_log done (state_of words)))
      × ((q : ℕ) → q < used → within 1 (get_or (full_log done (state_of words)) q 0) (get_or log q 0) ≡ true)
  pub exact_stop : (log : List ℕ) (done used : ℕ) → replay_answer words n log ≡ accepted (done ∷ used ∷ [])
      → (used ≤ length log) × (done < n → length log < length (full_log (suc done) (state_of words)))
  pub exact_bad : (log : List ℕ) (q : ℕ) → replay_answer words n log ≡ refused 18 (q ∷ []) → FirstBad words n log q
