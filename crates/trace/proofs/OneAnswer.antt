-- ONE ANSWER: any two steps that a record's bytes come to are equal, and so is all that the function which makes a step leaves. Assumes nothing.
use Prim.Native.Nat.{ℕ}
use mathlib.Core.Path.{◌≡◌, refl, sym, ap, subst, ◌∙◌}
use mathlib.Core.Bool.{Bool}
use mathlib.Core.List.{List, append-nil}
use lib.ListN.{length}
use Rattle.spans.specs.Spans.{splice}
use Rattle.rules.specs.declared.Setting.TheVariants.{Board}
use Rattle.rules.proofs.OneAnswer.{open_one, create_one, write_one, complete_one}
use Rattle.records.specs.Record.{Call}
use Rattle.records.proofs.RoundTrip.{begins_one}
use Rattle.lines.specs.Line.{text_of}
use Rattle.trace.specs.declared.types.Kept.{Kept}
use Rattle.trace.specs.declared.types.Stepped.{Stepped}
use Rattle.trace.specs.Run.{Run, Step, Makes, makes_open, makes_create, makes_write, makes_complete, makes_cut, Good, Steps, takes, stops}
use Rattle.trace.specs.Run.{after_open, after_create, after_write, after_complete, blank}
use Rattle.trace.specs.Seen.{is_bad, StepCall}

-- what is kept is read off the run
kept_of : Run → Kept
kept_of r = record {
  phase = r.phase;
  place = r.place;
  table = record { setting = r.table.setting; first = r.table.first; next = r.table.next; slots = r.table.slots };
  changes = r.changes;
  committed = r.committed;
}

abbrev stepped_of : Kept → ℕ → Bool → Stepped
stepped_of k n b = record { kept = k; length = n; bad = b }

same_stepped : {k l : Kept} {n m : ℕ} {b c : Bool} → k ≡ l → n ≡ m → b ≡ c → stepped_of k n b ≡ stepped_of l m c
same_stepped p q s = cc

module _ {r : Run} where
  pub makes_one : {c : Call} {s t : Step} → Makes r c s → Makes r c t → s ≡ t
  makes_one (makes_open {n = n} o h) (makes_open p k) = ap (after_open r) (open_one Board n o p h k)
  makes_one (makes_create {c = c} o h) (makes_create p k) = ap (after_create r) (create_one r.table r.image r.undo c o p h k)
  makes_one (makes_write {b = b} o h) (makes_write p k) = ap (after_write r) (write_one r.table r.image r.undo blank b o p h k)
  makes_one (makes_complete {b = b} o h) (makes_complete p k) = ap (after_complete r b) (complete_one r.table b o p h k)
  makes_one makes_cut makes_cut = refl

  -- bytes are the record of one call
  good_one : {bytes : List ℕ} {c d : Call} → Good r bytes c → Good r bytes d → c ≡ d
  good_one g h =
      (begins_one g.fits h.fits (append-nil _ ∙ sym g.bytes_are ∙ h.bytes_are ∙ sym (append-nil _))).0

  pub steps_one : {bytes : List ℕ} {s t : Step} → Steps r bytes s → Steps r bytes t → s ≡ t
  steps_one (takes {s = s} g m) (takes h n) = makes_one (subst (λ (c : Call). Makes r c s) (good_one g h) m) n
  steps_one (takes g m) (stops none) = absurd (none _ g)
  steps_one (stops none) (takes g m) = absurd (none _ g)
  steps_one (stops none) (stops other) = refl

  pub step_call_one : {bytes was : List ℕ} {o p : Stepped} {image undo line image' undo' line' : List ℕ} → StepCall r bytes was o image undo line
      → StepCall r bytes was p image' undo' line' → (o ≡ p) × (image ≡ image') × (undo ≡ undo') × (line ≡ line')
  unfolding kept_of
  step_call_one {was = was} {o} {p} a b =
      let same = steps_one a.steps b.steps in
      let runs = a.kept ∙ ap (λ (s : Step). s.run) same ∙ sym b.kept in (
        same_stepped (ap kept_of runs) (a.long ∙ ap (λ (s : Step). length (text_of s.line)) same ∙ sym b.long)
            (a.bad ∙ ap (λ (s : Step). is_bad s.line.word) same ∙ sym b.bad),
        ap (λ (x : Run). x.image) runs,
        ap (λ (x : Run). x.undo) runs,
        a.text ∙ ap (λ (s : Step). splice was 0 (text_of s.line)) same ∙ sym b.text,
      )
