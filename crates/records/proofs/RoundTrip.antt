-- ROUND TRIP, and what the reader's answers mean. Assumes nothing.
use Prim.Native.Nat.{ℕ, ◌+◌, ◌<◌}
use mathlib.Core.Path.{◌≡◌, refl, sym, ap, ap₂, subst, ◌∙◌}
use mathlib.Core.Bool.{Bool, true, false}
use mathlib.Core.List.{List, [], ◌∷◌, ◌++◌}
use native.Mathlib.Omega.{arith}
use lib.ListN.{length, take, drop, length-drop, take-append-drop}
use lib.Seq.{get_or-drop, drop_at}
use Rattle.ground.proofs.Decided.{clash}
use Rattle.records.specs.declared.types.Found.{Found}
use Rattle.records.specs.declared.types.Next.{Next}
use Rattle.records.specs.declared.types.Next.TheVariants as next
use Rattle.records.specs.Record.{Call, record_of, trace_of, AllIn, Fits, AllFit}
use Rattle.records.specs.Reader.{number_at, next_in, call_in}
use Rattle.records.specs.RoundTrip as round
use Rattle.records.specs.RoundTrip.{Taken, RoundTrip, Begins, ReaderMeans}
use Rattle.records.proofs.Reading.{found_taken, taken_bytes, length_record}
use Rattle.records.proofs.ReadBack.{back, head_size, length_short}
use Rattle.records.proofs.Beginning.{bad_stays, none_until}

-- ---- answers of the reader that are not one

unfoldable pub is_record : Next → Bool
is_record (next.Record f) = true
is_record (next.NoneYet k) = false
is_record next.Bad = false

no_record : {w : List ℕ} {x : Next} → next_in w ≡ x → is_record x ≡ false → (c : Call) → Begins w c → ⊥
unfolding is_record
no_record {w} {x} e f c h =
    let r = back c h.fits h.rest in
    clash refl (ap is_record (sym r.next ∙ ap next_in (sym h.bytes) ∙ e) ∙ f)

pub same_found : {f g : Found} → next.Record f ≡ next.Record g → f ≡ g
same_found e = cc

-- ---- lists of records

-- what is behind the record of a call that fits
behind : (c : Call) → Fits c → (rest : List ℕ) → drop (3 + number_at (record_of c ++ rest) 1 2) (record_of c ++ rest) ≡ rest
behind c f rest =
    drop_at (record_of c) rest (3 + number_at (record_of c ++ rest) 1 2)
    (length_record c ∙ ap (λ (n : ℕ). 3 + n) (sym (head_size c rest (omega (arith, length_short c f)))))

-- bytes begin with one record at most
pub begins_one : {c d : Call} {rest more : List ℕ} → Fits c → Fits d → record_of c ++ rest ≡ record_of d ++ more → (c ≡ d) × (rest ≡ more)
begins_one {c} {d} {rest} {more} f g e =
    let a = back c f rest in
    let b = back d g more in
    let same : a.found ≡ b.found = same_found (sym a.next ∙ ap next_in e ∙ b.next) in (
      sym a.call ∙ ap₂ call_in e same ∙ b.call,
      sym (behind c f rest) ∙ ap (λ (w : List ℕ). drop (3 + number_at w 1 2) w) e ∙ behind d g more,
    )

read_back : (cs : List Call) → AllFit cs → Taken (trace_of cs) cs
unfolding trace_of
read_back [] AllFit.none = round.none
read_back (c ∷ cs) (AllFit.and_more f fs) =
    let rest = trace_of cs in
    let r = back c f rest in
    subst (λ (d : Call). Taken (record_of c ++ rest) (d ∷ cs)) r.call
    (round.and_more r.next (subst (λ (w : List ℕ). Taken w cs) (sym (behind c f rest)) (read_back cs fs)))

-- nothing begins no bytes
none_empty : {f : Found} → next_in [] ≡ next.Record f → ⊥
unfolding next_in is_record
none_empty e = clash refl (sym (ap is_record e))

read_one : (w : List ℕ) (cs ds : List Call) → Taken w cs → Taken w ds → cs ≡ ds
read_one w cs ds round.none round.none = refl
read_one w cs ds round.none (round.and_more e t) = absurd (none_empty e)
read_one w cs ds (round.and_more e t) round.none = absurd (none_empty e)
read_one w cs ds (round.and_more e t) (round.and_more d u) =
    ap₂ (λ (x : Found) (y : List Call). call_in w x ∷ y) (same_found (sym e ∙ d)) (read_one _ _ _ t u)

-- a record that is found, and what is behind it, are the bytes
pub record_begins : (w : List ℕ) → AllIn 1 w → (f : Found) → next_in w ≡ next.Record f
    → Fits (call_in w f) × (w ≡ record_of (call_in w f) ++ drop (3 + number_at w 1 2) w)
record_begins w b f e =
    let k = found_taken w b f e in
    let c = call_in w f in
    let size : 3 + number_at w 1 2 ≡ length (record_of c) = omega (arith, k.size, length_record c) in (
      k.fits,
      sym (take-append-drop (3 + number_at w 1 2) w)
          ∙ ap (λ (r : List ℕ). r ++ drop (3 + number_at w 1 2) w) (ap (λ (n : ℕ). take n w) size ∙ taken_bytes w b f k),
    )

drop_in : (n : ℕ) (w : List ℕ) → AllIn 1 w → AllIn 1 (drop n w)
drop_in n w b i l = subst (λ (x : ℕ). x < 256) (sym (get_or-drop n w i 0)) (b (n + i) (omega (arith, length-drop n w)))

written_again : (w : List ℕ) → AllIn 1 w → (cs : List Call) → Taken w cs → AllFit cs × (trace_of cs ≡ w)
unfolding trace_of
written_again w b cs round.none = (AllFit.none, refl)
written_again w b cs (round.and_more {f = f} e t) =
    let n = 3 + number_at w 1 2 in
    let h = record_begins w b f e in
    let more = written_again (drop n w) (drop_in n w b) _ t in
    (AllFit.and_more h.0 more.0, ap (λ (r : List ℕ). record_of (call_in w f) ++ r) more.1 ∙ sym h.1)

pub round_trip : RoundTrip
round_trip = record { read_back = read_back; read_one = read_one; written_again = written_again }

pub reader_means : (w : List ℕ) → ReaderMeans w
unfolding is_record
reader_means w = record {
  record_is = λ b f e. let h = record_begins w b f e in record { fits = h.0; rest = drop (3 + number_at w 1 2) w; bytes = h.1 };
  none_yet = λ k e.
      let n = none_until w [] e in
      (n.0, n.1, λ more l c h. no_record ((none_until w more e).2 l) refl c h);
  bad = λ e more c h. no_record (bad_stays w more e) refl c h;
}
