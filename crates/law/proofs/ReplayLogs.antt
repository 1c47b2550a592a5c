-- What a replay reads of its log: the log of full lengths gives the run, numbers past those used are not looked at, and a replay in two pieces is one
-- replay of the whole log.
use mathlib.Core.Bool.{Bool, true, false}
use mathlib.Core.List.{List, [], ◌∷◌, ◌++◌, append_assoc, append-nil}
use mathlib.Core.Path.{◌≡◌, refl, sym, ap, ◌∙◌, subst}
use Prim.Native.Nat.{ℕ, zero, suc, ◌+◌, ◌-◌, ◌≤◌, ◌<◌}
use native.Mathlib.Decide.{dec_lt}
use native.Mathlib.Nat.{add-zero, add-suc}
use native.Mathlib.Omega.{arith}
use lib.Dec.{leb, ltb}
use lib.ListN.{length, get_or, drop, length-append, length-drop, get_or-append}
use lib.Seq.{get_or-append-add, get_or_at, get_or-drop}
use borrow.Author.Tests.{leb-true, le-leb, lt-leb, leb-false, eqb-true, le-ltb}
use Rattle.law.specs.Sums.{bit, pick, among}
use Rattle.law.specs.Tick.{Row, State, core_at, due, full_length, tick_with, tick, run, clock_end}
use Rattle.law.specs.Sound.{SoundState, Lengths}
use Rattle.law.specs.Replay.{Replay, releases, place_of, logged, used_then, goes_on, ticked, replayed, out_of_range, bad_row, is_bad, full_lengths, full_log}
use Rattle.law.proofs.First.{first_is, first_same}
use Rattle.law.proofs.Question.{within_is}
use Rattle.law.proofs.Released.{tick_with_same}
use Rattle.law.proofs.Replay.{releases_next, releases_more, replay_on, replay_stop, walked, Done, done_start, done_next, done_step, stopped_there}
use Rattle.law.proofs.Sound.{due_yes}
use Rattle.law.proofs.Tests.{passes, fails, known}
use Rattle.law.proofs.Ticks.{full_lengths_lem, run_sound}

-- ---- places in the log

module _ (rows : List Row) where
  -- the place of a released job comes before the places of the rows below it
  pub releases_before : (i n : ℕ) → i < n → (core_at rows i).wait ≡ 0 → releases rows i < releases rows n
  releases_before i n h e =
      let all : n - suc i + suc i ≡ n = omega arith in
      omega (arith, releases_next rows i, ap bit (due_yes (core_at rows i) e), rw all at (releases_more rows (suc i) (n - suc i)))

  -- the full lengths of one tick, each at its place
  one_length : (b : Bool) (c : ℕ) → length (pick b (c ∷ []) []) ≡ bit b
  one_length true c = refl
  one_length false c = refl

  pub lengths_many : (i : ℕ) → length (full_lengths rows i) ≡ releases rows i
  unfolding full_lengths releases among
  lengths_many zero = refl
  lengths_many (suc i) =
      length-append (full_lengths rows i) _
      ∙ omega (arith, lengths_many i, one_length (due (core_at rows i)) (core_at rows i).task.c, releases_next rows i)

  lengths_last : (n : ℕ) → (core_at rows n).wait ≡ 0 → get_or (full_lengths rows (suc n)) (releases rows n) 0 ≡ full_length rows n
  unfolding full_lengths
  lengths_last n e = rw (due_yes (core_at rows n) e) (get_or_at (full_lengths rows n) (core_at rows n).task.c [] 0 (releases rows n) (lengths_many n))

  pub lengths_at : (n i : ℕ) → i < n → (core_at rows i).wait ≡ 0 → get_or (full_lengths rows n) (releases rows i) 0 ≡ full_length rows i
  unfolding full_lengths
  lengths_at zero i h e = absurd (omega arith)
  lengths_at (suc n) i h e =
      elim (dec_lt i n) [
        | yes l ↦ get_or-append (full_lengths rows n) _ 0 (releases rows i) (omega (arith, lengths_many n, releases_before i n l e)) ∙ lengths_at n i l e
        | no l ↦ let q : i ≡ n = omega arith in rw q (lengths_last n (rw q at e))
      ]

-- ---- numbers in range

-- lengths from 1 to C are in range
pub in_range : (log : List ℕ) (x : Replay) → Lengths (logged log x) x.state.rows → is_bad log x ≡ false
unfolding bad_row out_of_range
in_range log x g = le-ltb (bad_row log x) (length x.state.rows) (omega (arith, none))
  where
    one : (i : ℕ) → i < length x.state.rows → out_of_range log x i ≡ false
    one i h =
        elim (known (due (core_at x.state.rows i))) [
          | fails e ↦ rw e
          | passes e ↦ let w = eqb-true (core_at x.state.rows i).wait 0 e in
              rw (e, within_is 1 (core_at x.state.rows i).task.c (logged log x i) (g.low i h w) (g.high i h w))
        ]

    none : bad_row log x ≡ length x.state.rows
    none =
        first_is (out_of_range log x) 0 (length x.state.rows) (length x.state.rows) (omega arith) (omega arith) (λ l. absurd (omega arith))
        (λ i l h. one i h)

-- ---- the log of full lengths

-- the replay that has come as far as the run of t ticks
abbrev pub full_at : ℕ → State → Replay
full_at t s = record { state = run t s; ticks = t; used = length (full_log t s) }

-- a log that goes on with the full lengths of the next tick
module _ (before rest : List ℕ) (x : Replay) (spent : x.used ≡ length before) where
  abbrev rows : List Row
  rows = x.state.rows

  abbrev going : List ℕ
  going = before ++ (full_lengths rows (length rows) ++ rest)

  full_number : (i : ℕ) → i < length rows → (core_at rows i).wait ≡ 0 → logged going x i ≡ full_length rows i
  full_number i h e =
      ap (λ (z : ℕ). get_or going (z + releases rows i) 0) spent ∙ get_or-append-add before _ (releases rows i) 0
      ∙ get_or-append (full_lengths rows (length rows)) rest 0 (releases rows i)
      (omega (arith, lengths_many rows (length rows), releases_before rows i (length rows) h e))
      ∙ lengths_at rows (length rows) i h e

  full_on : goes_on going x ≡ true
  unfolding goes_on
  full_on =
      le-leb (used_then x) (length going)
      (omega (
        arith,
        spent,
        length-append before (full_lengths rows (length rows) ++ rest),
        length-append (full_lengths rows (length rows)) rest,
        lengths_many rows (length rows),
      ))

  full_tick : tick_with (logged going x) x.state ≡ tick x.state
  unfolding tick
  full_tick = tick_with_same (logged going x) (full_length rows) x.state full_number

  full_in_range : SoundState 0 x.state → is_bad going x ≡ false
  full_in_range f =
      let g = full_lengths_lem x.state f in
      in_range going x
      (record {
        low = λ i h e. omega (arith, full_number i h e, g.low i h e);
        high = λ i h e. omega (arith, full_number i h e);
      })

module _ (s : State) where
  abbrev next : ℕ → List ℕ
  next t = full_lengths (run t s).rows (length (run t s).rows)

  one_more : (t : ℕ) (rest : List ℕ) → ticked (full_log t s ++ (next t ++ rest)) (full_at t s) ≡ full_at (suc t) s
  unfolding run full_log
  one_more t rest =
      let state-is = full_tick (full_log t s) rest (full_at t s) refl in
      let ticks-are : t + 1 ≡ suc t = omega arith in
      let used_is : used_then (full_at t s) ≡ length (full_log t s ++ next t) =
      omega (arith, length-append (full_log t s) (next t), lengths_many (run t s).rows (length (run t s).rows)) in
      λ j. record { state = state-is j; ticks = ticks-are j; used = used_is j }

  -- whatever follows, the log of t ticks at full length gives the run of t ticks
  pub full_replayed : (t : ℕ) (rest : List ℕ) → replayed (full_log t s ++ rest) t s ≡ full_at t s
  unfolding replayed run full_log
  full_replayed zero rest = refl
  full_replayed (suc t) rest =
      let log : List ℕ = full_log t s ++ (next t ++ rest) in
      let there : replayed log t s ≡ full_at t s = full_replayed t (next t ++ rest) in
      ap (λ (z : List ℕ). replayed z (suc t) s) (append_assoc (full_log t s) (next t) rest)
      ∙ replay_on log t s (ap (goes_on log) there ∙ full_on (full_log t s) rest (full_at t s) refl)
      ∙ ap (ticked log) there ∙ one_more t rest

  -- and none of its numbers is out of range
  pub full_done : (t : ℕ) (rest : List ℕ) → SoundState 0 s → s.time + t ≤ clock_end → Done (full_log t s ++ rest) s t
  unfolding full_log
  full_done zero rest f h = done_start rest s
  full_done (suc t) rest f h =
      let log : List ℕ = full_log t s ++ (next t ++ rest) in
      let there : replayed log t s ≡ full_at t s = full_replayed t (next t ++ rest) in
      let sound : SoundState 0 (run t s) = run_sound t s f (omega arith) in
      subst (λ (z : List ℕ). Done z s (suc t)) (sym (append_assoc (full_log t s) (next t) rest))
      (done_next (full_done t (next t ++ rest) f (omega arith))
      (ap (goes_on log) there ∙ full_on (full_log t s) rest (full_at t s) refl)
      (ap (is_bad log) there ∙ full_in_range (full_log t s) rest (full_at t s) refl sound))

  -- the log just as long
  pub full_run : (t : ℕ) → replayed (full_log t s) t s ≡ full_at t s
  full_run t = ap (λ (z : List ℕ). replayed z t s) (sym (append-nil (full_log t s))) ∙ full_replayed t []

  pub full_legal : (t : ℕ) → SoundState 0 s → s.time + t ≤ clock_end → Done (full_log t s) s t
  full_legal t f h = subst (λ (z : List ℕ). Done z s t) (append-nil (full_log t s)) (full_done t [] f h)

-- ---- numbers that are not looked at

-- a replay uses no more numbers than there are, and each tick uses its own
module _ (log : List ℕ) (s : State) where
  pub used_within : (t : ℕ) → (replayed log t s).used ≤ length log
  unfolding replayed goes_on
  used_within zero = omega arith
  used_within (suc t) =
      elim (known (goes_on log (replayed log t s))) [
        | passes e ↦ omega (arith, leb-true (used_then (replayed log t s)) (length log) e, ap (λ x. x.used) (replay_on log t s e))
        | fails e ↦ omega (arith, used_within t, ap (λ x. x.used) (replay_stop log t s e))
      ]

  used_more : (t d : ℕ) → (replayed log t s).used ≤ (replayed log (d + t) s).used
  used_more t zero = let e : 0 + t ≡ t = omega arith in rw e (omega arith)
  used_more t (suc d) =
      let same : suc d + t ≡ suc (d + t) = omega arith in
      rw same
      (elim (known (goes_on log (replayed log (d + t) s))) [
        | passes e ↦ omega (arith, used_more t d, ap (λ x. x.used) (replay_on log (d + t) s e))
        | fails e ↦ omega (arith, used_more t d, ap (λ x. x.used) (replay_stop log (d + t) s e))
      ])

-- another log, at another place, that gives the same number to each job that is released next
module _ (log other : List ℕ) (x : Replay) (ticks used : ℕ) where
  abbrev y : Replay
  y = record { state = x.state; ticks = ticks; used = used }

  module _ (same : (i : ℕ) → i < length x.state.rows → (core_at x.state.rows i).wait ≡ 0 → logged other y i ≡ logged log x i) where
    test_same : (i : ℕ) → i < length x.state.rows → out_of_range other y i ≡ out_of_range log x i
    unfolding out_of_range
    test_same i h =
        elim (known (due (core_at x.state.rows i))) [
          | fails e ↦ rw e
          | passes e ↦ rw (same i h (eqb-true (core_at x.state.rows i).wait 0 e))
        ]

    bad_row_same : bad_row other y ≡ bad_row log x
    unfolding bad_row
    bad_row_same = first_same (out_of_range other y) (out_of_range log x) 0 (length x.state.rows) (λ i l h. test_same i (omega arith))

    bad_same : is_bad other y ≡ is_bad log x
    bad_same = ap (λ (z : ℕ). ltb z (length x.state.rows)) bad_row_same

    tick_same : tick_with (logged other y) x.state ≡ tick_with (logged log x) x.state
    tick_same = tick_with_same (logged other y) (logged log x) x.state same

-- a log no shorter that agrees with it where the ticks done have used it
module _ {log : List ℕ} {s : State} {n : ℕ} (d : Done log s n) (other : List ℕ) (long : length log ≤ length other)
    (agrees : (q : ℕ) → q < (replayed log n s).used → get_or other q 0 ≡ get_or log q 0) where
  number_same : (t i : ℕ) → t < n → i < length (replayed log t s).state.rows → (core_at (replayed log t s).state.rows i).wait ≡ 0
      → logged other (replayed log t s) i ≡ logged log (replayed log t s) i
  number_same t i l h e =
      let x : Replay = replayed log t s in
      let all : n - suc t + suc t ≡ n = omega arith in
      agrees (place_of x i)
      (omega (
        arith,
        releases_before x.state.rows i (length x.state.rows) h e,
        ap (λ x. x.used) (done_step d t l),
        rw all at (used_more log s (suc t) (n - suc t)),
      ))

  on_too : (x : Replay) → goes_on log x ≡ true → goes_on other x ≡ true
  unfolding goes_on
  on_too x e = le-leb (used_then x) (length other) (omega (arith, leb-true (used_then x) (length log) e))

  went_on : (t : ℕ) → t < n → goes_on log (replayed log t s) ≡ true
  went_on t l = (walked log s n).on t (omega (arith, d.ticks))

  pub unread_replayed : (t : ℕ) → t ≤ n → replayed other t s ≡ replayed log t s
  unfolding replayed
  unread_replayed zero l = refl
  unread_replayed (suc t) l =
      let x : Replay = replayed log t s in
      let there : replayed other t s ≡ x = unread_replayed t (omega arith) in
      let state-is : tick_with (logged other x) x.state ≡ tick_with (logged log x) x.state =
      tick_same log other x x.ticks x.used (λ i h e. number_same t i l h e) in
      replay_on other t s (ap (goes_on other) there ∙ on_too x (went_on t l)) ∙ ap (ticked other) there
      ∙ ap (λ (z : State). record { state = z; ticks = x.ticks + 1; used = used_then x }) state-is
      ∙ sym (done_step d t l)

  pub unread_done : Done other s n
  unread_done =
      record {
        ticks = ap (λ x. x.ticks) (unread_replayed n (omega arith)) ∙ d.ticks;
        clean = λ t l. let x : Replay = replayed log t s in
            ap (is_bad other) (unread_replayed t (omega arith))
            ∙ bad_same log other x x.ticks x.used (λ i h e. number_same t i l h e) ∙ d.clean t l;
      }

  on_same : length other ≡ length log → (x : Replay) → goes_on other x ≡ goes_on log x
  unfolding goes_on
  on_same same x = ap (leb (used_then x)) same

  -- and where the one stops the other does, if it is just as long
  pub unread_last : length other ≡ length log → (m : ℕ) → n ≤ m → replayed log m s ≡ replayed log n s → replayed other m s ≡ replayed other n s
  unread_last same m h e =
      elim (dec_lt n m) [
        | no l ↦ ap (λ (z : ℕ). replayed other z s) (omega arith)
        | yes l ↦ let stop : goes_on log (replayed log m s) ≡ false = (walked log s m).stopped (omega (arith, ap (λ x. x.ticks) e, d.ticks)) in
            stopped_there unread_done m h
            (ap (goes_on other) (unread_replayed n (omega arith)) ∙ on_same same (replayed log n s) ∙ ap (goes_on log) (sym e) ∙ stop)
      ]

-- ---- a replay in two pieces

module _ (log : List ℕ) (s : State) (t : ℕ) where
  -- where the first has come to, and what it leaves of the log
  abbrev mid : Replay
  mid = replayed log t s

  abbrev rest : List ℕ
  rest = drop mid.used log

  -- the second, counted from the outset of the first
  abbrev pub counted : Replay → Replay
  counted x = record { state = x.state; ticks = t + x.ticks; used = mid.used + x.used }

  number_there : (x : Replay) (i : ℕ) → logged log (counted x) i ≡ logged rest x i
  number_there x i =
      let e : place_of (counted x) i ≡ mid.used + place_of x i = omega arith in
      ap (λ (z : ℕ). get_or log z 0) e ∙ sym (get_or-drop mid.used log (place_of x i) 0)

  on_there : (x : Replay) → goes_on log (counted x) ≡ goes_on rest x
  unfolding goes_on
  on_there x =
      let left : length rest ≡ length log - mid.used = length-drop mid.used log in
      let enough : mid.used ≤ length log = used_within log s t in
      elim (known (leb (used_then x) (length rest))) [
        | passes e ↦ le-leb (used_then (counted x)) (length log) (omega (arith, leb-true (used_then x) (length rest) e)) ∙ sym e
        | fails e ↦ lt-leb (used_then (counted x)) (length log) (omega (arith, leb-false (used_then x) (length rest) e)) ∙ sym e
      ]

  bad_there : (x : Replay) → is_bad log (counted x) ≡ is_bad rest x
  bad_there x = bad_same rest log x (t + x.ticks) (mid.used + x.used) (λ i h e. number_there x i)

  ticked_there : (x : Replay) → ticked log (counted x) ≡ counted (ticked rest x)
  ticked_there x =
      let state-is = tick_same rest log x (t + x.ticks) (mid.used + x.used) (λ i h e. number_there x i) in
      let ticks-are : t + x.ticks + 1 ≡ t + (x.ticks + 1) = omega arith in
      let used_is : used_then (counted x) ≡ mid.used + used_then x = omega arith in
      λ j. record { state = state-is j; ticks = ticks-are j; used = used_is j }

  -- the first did all its ticks
  module _ (all : (replayed log t s).ticks ≡ t) where
    pub pieces_replayed : (u : ℕ) → replayed log (t + u) s ≡ counted (replayed rest u mid.state)
    unfolding replayed
    pieces_replayed zero =
        let ticks-are : mid.ticks ≡ t + 0 = omega (arith, all) in
        let used_is : mid.used ≡ mid.used + 0 = omega arith in
        ap (λ (z : ℕ). replayed log z s) (add-zero t) ∙ λ j. record { state = mid.state; ticks = ticks-are j; used = used_is j }
    pieces_replayed (suc u) =
        let x : Replay = replayed rest u mid.state in
        let there : replayed log (t + u) s ≡ counted x = pieces_replayed u in
        ap (λ (z : ℕ). replayed log z s) (add-suc t u)
        ∙ elim (known (goes_on rest x)) [
          | passes e ↦ replay_on log (t + u) s (ap (goes_on log) there ∙ on_there x ∙ e) ∙ ap (ticked log) there ∙ ticked_there x
              ∙ ap counted (sym (replay_on rest u mid.state e))
          | fails e ↦ replay_stop log (t + u) s (ap (goes_on log) there ∙ on_there x ∙ e) ∙ there
              ∙ ap counted (sym (replay_stop rest u mid.state e))
        ]

  module _ (d : Done log s t) (u : ℕ) where
    pub pieces_done : Done rest mid.state u → Done log s (t + u)
    pieces_done f =
        record {
          ticks = ap (λ x. x.ticks) (pieces_replayed d.ticks u) ∙ omega (arith, f.ticks);
          clean = λ v l. elim (dec_lt v t) [
            | yes h ↦ d.clean v h
            | no h ↦ let e : v ≡ t + (v - t) = omega arith in
                ap (λ (z : ℕ). is_bad log (replayed log z s)) e ∙ ap (is_bad log) (pieces_replayed d.ticks (v - t))
                ∙ bad_there (replayed rest (v - t) mid.state) ∙ f.clean (v - t) (omega arith)
          ];
        }

    pub pieces_apart : Done log s (t + u) → Done rest mid.state u
    pieces_apart f =
        record {
          ticks = omega (arith, f.ticks, ap (λ x. x.ticks) (pieces_replayed d.ticks u));
          clean = λ v l. sym (bad_there (replayed rest v mid.state)) ∙ ap (is_bad log) (sym (pieces_replayed d.ticks v)) ∙ f.clean (t + v) (omega arith);
        }
