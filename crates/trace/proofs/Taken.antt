-- When the bytes of a record are taken, and when they stop the run. Assumes nothing.
use Prim.Native.Nat.{ℕ}
use mathlib.Core.Path.{◌≡◌, refl, sym, ap, subst, ◌∙◌}
use mathlib.Core.Bool.{true, false}
use mathlib.Core.List.{List}
use Rattle.ground.proofs.Decided.{clash}
use Rattle.records.specs.declared.types.Found.{Found}
use Rattle.records.specs.declared.types.Next.{Next}
use Rattle.records.specs.declared.types.Next.TheVariants as next
use Rattle.records.specs.Record.{Call, AllIn}
use Rattle.records.specs.Reader.{only_in, call_in}
use Rattle.records.proofs.RoundTrip.{is_record, same_found}
use Rattle.records.proofs.Only.{only_record, only_back}
use Rattle.trace.specs.Run.{Run, Step, Makes, is_in_order, Good, Steps, takes, stops, after_bad}

module _ (r : Run) (bytes : List ℕ) where
  -- what was found, in its order
  pub takes_found : AllIn 1 bytes → (f : Found) → only_in bytes ≡ next.Record f → is_in_order r.phase (call_in bytes f) ≡ true → (s : Step)
      → Makes r (call_in bytes f) s → Steps r bytes s
  takes_found b f e o s m =
      let h = only_record bytes b f e in
      takes (record { fits = h.0; bytes_are = h.1; in_order = o }) m

  -- a good record is found
  found_good : (c : Call) → Good r bytes c → (f : Found) × (only_in bytes ≡ next.Record f) × (call_in bytes f ≡ c)
  found_good c g =
      let h = only_back c g.fits in
      (h.0, ap only_in g.bytes_are ∙ h.1, ap (λ (w : List ℕ). call_in w h.0) g.bytes_are ∙ h.2)

  -- out of its order
  pub stops_order : (f : Found) → only_in bytes ≡ next.Record f → is_in_order r.phase (call_in bytes f) ≡ false → (s : Step) → s ≡ after_bad r → Steps r bytes s
  stops_order f e o s q =
      subst (Steps r bytes) (sym q)
      (stops (λ c g.
      let h = found_good c g in
      let same : f ≡ h.0 = same_found (sym e ∙ h.1) in
      clash g.in_order (ap (is_in_order r.phase) (sym (ap (call_in bytes) same ∙ h.2)) ∙ o)))

  -- no record at all
  pub stops_none : (x : Next) → only_in bytes ≡ x → is_record x ≡ false → (s : Step) → s ≡ after_bad r → Steps r bytes s
  unfolding is_record
  stops_none x e n s q =
      subst (Steps r bytes) (sym q) (stops (λ c g. clash refl (ap is_record (sym (found_good c g).1 ∙ e) ∙ n)))
