-- THE LINES ARE PRINTED: of every input of bytes, what a program writes that goes through it by steps is what is printed of it, and nothing else is.
-- Assumes nothing.
use Prim.Native.Nat.{ℕ, ◌+◌, ◌<◌}
use mathlib.Core.Path.{◌≡◌, refl, sym, ap, ap₂, subst, ◌∙◌}
use mathlib.Core.Bool.{true, false}
use mathlib.Core.List.{List, [], ◌++◌}
use native.Mathlib.Omega.{arith}
use lib.ListN.{length, length-append, get_or-append}
use lib.Seq.{get_or-append-add}
use Rattle.ground.proofs.Decided.{clash}
use Rattle.records.specs.Record.{Call, record_of, AllIn}
use Rattle.records.specs.RoundTrip.{Begins}
use Rattle.records.proofs.Reading.{length_record}
use Rattle.records.proofs.RoundTrip.{begins_one, reader_means}
use Rattle.records.proofs.Only.{only_record}
use Rattle.lines.specs.Line.{text_of}
use Rattle.trace.specs.Run.{Run, Step, Makes, makes_open, makes_create, makes_write, makes_complete, makes_cut, Good, Steps, takes, stops, after_bad}
use Rattle.trace.specs.Seen.{is_bad}
use Rattle.trace.specs.Printed as prints
use Rattle.trace.specs.Printed.{Ended, GoesOn, Prints}
use Rattle.trace.specs.Replayed as replays
use Rattle.trace.specs.Replayed.{TakenUp, Replays, LinesArePrinted}
use Rattle.trace.proofs.OneAnswer.{makes_one}

-- ---- one text for each input

module _ {r q : Run} {input w : List ℕ} (e : input ≡ w) where
  -- an input that has ended does not go on
  none_left : {c : Call} → Ended r input → GoesOn q w c → ⊥
  none_left {c} h g =
      let empty : length (g.bytes ++ g.rest) ≡ 0 = ap length (sym g.whole ∙ sym e ∙ h.all_read) in
      absurd (omega (arith, empty, length-append g.bytes g.rest, ap length g.good.bytes_are, length_record c))

  -- an input goes on in one way
  on_one : {c d : Call} (g : GoesOn r input c) (h : GoesOn q w d) → (c ≡ d) × (g.rest ≡ h.rest)
  on_one g h =
      begins_one g.good.fits h.good.fits
      (ap (λ (x : List ℕ). x ++ g.rest) (sym g.good.bytes_are)
      ∙ sym g.whole ∙ e ∙ h.whole ∙ ap (λ (x : List ℕ). x ++ h.rest) h.good.bytes_are)

  module _ (p : r ≡ q) where
    same_end : Ended r input → Ended q w
    same_end h = record { all_read = sym e ∙ h.all_read; some_came = λ z. h.some_came (ap (λ (x : Run). x.phase) p ∙ z) }

    same_on : {c : Call} → GoesOn r input c → GoesOn q w c
    same_on {c} g = record { bytes = g.bytes; rest = g.rest; whole = sym e ∙ g.whole; good = subst (λ (x : Run). Good x g.bytes c) p g.good }

-- from runs and inputs that are equal
prints_same : {r : Run} {input text : List ℕ} → Prints r input text → {q : Run} {w other : List ℕ} → r ≡ q → input ≡ w → Prints q w other → text ≡ other
prints_same (prints.ends h) p e (prints.ends k) = refl
prints_same (prints.ends h) p e (prints.goes_on g m t) = absurd (none_left e h g)
prints_same (prints.ends h) p e (prints.stops n f) = absurd (n (same_end e p h))
prints_same (prints.goes_on g m t) p e (prints.ends k) = absurd (none_left (sym e) k g)
prints_same {r} (prints.goes_on {s = s} g m t) p e (prints.goes_on {c = d} {s = u} h n v) =
    let same = on_one e g h in
    let step : s ≡ u = makes_one (subst (λ (c : Call). Makes r c s) same.0 m) (subst (λ (x : Run). Makes x d u) (sym p) n) in
    ap₂ (λ (x y : List ℕ). x ++ y) (ap (λ (x : Step). text_of x.line) step) (prints_same t (ap (λ (x : Step). x.run) step) same.1 v)
prints_same (prints.goes_on g m t) p e (prints.stops n f) = absurd (f _ (same_on e p g))
prints_same (prints.stops n f) p e (prints.ends k) = absurd (n (same_end (sym e) (sym p) k))
prints_same (prints.stops n f) p e (prints.goes_on g m t) = absurd (f _ (same_on (sym e) (sym p) g))
prints_same (prints.stops n f) p e (prints.stops m g) = ap (λ (x : Run). text_of (after_bad x).line) p

-- ---- by steps

-- the line of a call that was made is no bad one
made_good : {r : Run} {c : Call} {s : Step} → Makes r c s → is_bad s.line.word ≡ false
made_good (makes_open o h) = refl
made_good (makes_create o h) = refl
made_good (makes_write o h) = refl
made_good (makes_complete o h) = refl
made_good makes_cut = refl

-- a step that was not bad took a record
record Took (r : Run) (bytes : List ℕ) (s : Step) : Type 0 where
  call : Call
  good : Good r bytes call
  makes : Makes r call s

took : {r : Run} {bytes : List ℕ} {s : Step} → Steps r bytes s → is_bad s.line.word ≡ false → Took r bytes s
took (takes {c = c} g m) e = record { call = c; good = g; makes = m }
took (stops n) e = absurd (clash refl e)

-- and one that was bad found none
record Refused (r : Run) (bytes : List ℕ) (s : Step) : Type 0 where
  none : (c : Call) → Good r bytes c → ⊥
  is : s ≡ after_bad r

refused : {r : Run} {bytes : List ℕ} {s : Step} → Steps r bytes s → is_bad s.line.word ≡ true → Refused r bytes s
refused (takes g m) e = absurd (clash e (made_good m))
refused (stops n) e = record { none = n; is = refl }

-- bytes in front and behind are bytes
front_in : (xs ys : List ℕ) → AllIn 1 (xs ++ ys) → AllIn 1 xs
front_in xs ys b i l = subst (λ (x : ℕ). x < 256) (get_or-append xs ys 0 i l) (b i (omega (arith, length-append xs ys)))

rest_in : (xs ys : List ℕ) → AllIn 1 (xs ++ ys) → AllIn 1 ys
rest_in xs ys b i l = subst (λ (x : ℕ). x < 256) (get_or-append-add xs ys i 0) (b (length xs + i) (omega (arith, length-append xs ys)))

-- the input begins with the record that it goes on with
begins : {r : Run} {input : List ℕ} {c : Call} → GoesOn r input c → Begins input c
begins g = record { fits = g.good.fits; rest = g.rest; bytes = g.whole ∙ ap (λ (w : List ℕ). w ++ g.rest) g.good.bytes_are }

-- where the bytes that were taken up are no good record, the input does not go on
no_further : {r : Run} {bytes rest : List ℕ} → AllIn 1 (bytes ++ rest) → TakenUp bytes rest → ((c : Call) → Good r bytes c → ⊥)
    → (c : Call) → GoesOn r (bytes ++ rest) c → ⊥
no_further {r} {bytes} {rest} b (replays.whole {f = f} e) none c g =
    let h = only_record bytes (front_in bytes rest b) f e in
    let same =
    (begins_one h.0 g.good.fits
    (ap (λ (w : List ℕ). w ++ rest) (sym h.1) ∙ g.whole ∙ ap (λ (w : List ℕ). w ++ g.rest) g.good.bytes_are)).0 in
    none c (record { fits = g.good.fits; bytes_are = h.1 ∙ ap record_of same; in_order = g.good.in_order })
no_further {bytes = bytes} {rest} b (replays.bad e) none c g = (reader_means bytes).bad e rest c (begins g)
no_further {bytes = bytes} b (replays.early {k = k} e) none c g =
    ((reader_means bytes).none_yet k e).2 [] ((reader_means bytes).none_yet k e).0 c (begins g)

replays_print : {r : Run} {input text : List ℕ} → AllIn 1 input → Replays r input text → Prints r input text
replays_print b (replays.ends h) = prints.ends h
replays_print b (replays.goes_on {bytes = bytes} {rest} s e t) =
    let k = took s e in
    prints.goes_on (record { bytes = bytes; rest = rest; whole = refl; good = k.good }) k.makes (replays_print (rest_in bytes rest b) t)
replays_print {r} b (replays.stops {bytes = bytes} {rest} n up s e) =
    let k = refused s e in
    subst (λ (x : Step). Prints r (bytes ++ rest) (text_of x.line)) (sym k.is) (prints.stops n (no_further b up k.none))

pub lines_are_printed : LinesArePrinted
lines_are_printed = record { printed = λ input text b t. replays_print b t; one = λ input text other p q. prints_same p refl refl q }
