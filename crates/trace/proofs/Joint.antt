-- THE JOINT CALL IN A TRACE: its records, replayed, give its table and its answers. Assumes nothing.
use Prim.Native.Nat.{ℕ}
use mathlib.Core.Path.{◌≡◌, refl, sym, ap, subst, ◌∙◌}
use mathlib.Core.Bool.{true}
use mathlib.Core.List.{List, [], ◌∷◌}
use mathlib.Core.Logic.{inl, inr, ⊎_elim}
use lib.ListN.{length}
use Rattle.std.specs.Prelude.{Result, Ok, Err}
use Rattle.rules.specs.declared.refusals.Refusal.{Refusal}
use Rattle.rules.specs.Sizes.{block_bytes}
use Rattle.rules.specs.Table.{Table}
use Rattle.rules.proofs.Cases.{as_is, as_well, none_differs, first_alike}
use Rattle.rules.specs.Calls.{answer_number, sent_set, Writing, Writes, write_granted, Completion, Completes}
use Rattle.rules.specs.Joint.{Joint, CompletesWrites, joint_stopped, joint_went}
use Rattle.records.specs.Record.{Call, completes}
use Rattle.records.proofs.CallsMade.{both_made, one_made}
use Rattle.trace.specs.declared.types.Phase.TheVariants as phase
use Rattle.trace.specs.Run.{Run, is_in_order, blank, after_write, after_complete, Makes}
use Rattle.trace.specs.Joint.{MakesAll, JointReplays, JointReplayed}

-- ---- what the lent block held matters to no answer and no table

-- the same writing on the other block: a refusal leaves that, a grant writes it whole
abbrev block_after : List ℕ → Result ℕ Refusal → List ℕ → List ℕ
block_after other (Ok s) block = block
block_after other (Err r) block = other

abbrev on_other : List ℕ → Writing → Writing
on_other other w = record { answer = w.answer; table = w.table; image = w.image; undo = w.undo; block = block_after other w.answer w.block }

other_block : {t : Table} {image undo lent : List ℕ} {b : ℕ} (other : List ℕ) → length lent ≡ length other → (w : Writing)
    → Writes t image undo lent b w → Writes t image undo other b (on_other other w)
other_block {t} {image} {undo} {lent} {b} other sized w p = record {
  first = first_alike
      (as_well (⊎_elim inl (λ z. inr (⊎_elim inl (λ d. inr (λ e. d (sized ∙ e))) z))) (⊎_elim inl (λ z. inr (⊎_elim inl (λ d. inr (λ e. d (sym sized ∙ e))) z)))
      (as_is (as_is (as_is (as_is (as_is none_differs))))))
      p.first;
  refusal = λ d. let r = p.refusal d in (r.0, r.1, ap (on_other other) r.2);
  grant = λ z. let g = p.grant z in record {
    largest = g.largest;
    whole = subst (λ (v : Writing). on_other other v ≡ write_granted t image undo b (sent_set v.answer)) (sym g.whole) refl;
  };
}

-- ---- the records, replayed

module _ (r : Run) (x y : ℕ) (lent : List ℕ) (opened : r.phase ≡ phase.Opened) (sized : length lent ≡ block_bytes) where
  -- both calls are in their order
  completes_now : is_in_order r.phase (completes x) ≡ true
  completes_now = rw opened

  stopped : (c : Completion) → Completes r.table x c → (answer_number c.answer ≡ 0 → ⊥) → JointReplays r x y (joint_stopped c r.image r.undo lent)
  stopped c p n = record {
    run = (after_complete r x c).run;
    made = subst (λ (cs : List Call). MakesAll r cs (after_complete r x c).run (answer_number c.answer ∷ [])) (sym (one_made x y (answer_number c.answer) n))
        (MakesAll.and_more completes_now (Makes.makes_complete c p) MakesAll.none_left);
    table = refl;
    image = refl;
    undo = refl;
  }

  went : (c : Completion) → Completes r.table x c → answer_number c.answer ≡ 0 → (w : Writing) → Writes c.table r.image r.undo lent y w
      → JointReplays r x y (joint_went c w)
  went c p z w q =
      let then = (after_complete r x c).run in
      let number = answer_number c.answer in
      let v = on_other blank w in
      let wrote = Makes.makes_write v (other_block blank sized w q) in
      record {
        run = (after_write then v).run;
        made = subst (λ (cs : List Call). MakesAll r cs (after_write then v).run (number ∷ (answer_number w.answer ∷ []))) (sym (both_made x y number z))
            (MakesAll.and_more completes_now (Makes.makes_complete c p) (MakesAll.and_more refl wrote MakesAll.none_left));
        table = refl;
        image = refl;
        undo = refl;
      }

replays : (r : Run) (x y : ℕ) (lent : List ℕ) (o : Joint) → r.phase ≡ phase.Opened → length lent ≡ block_bytes
    → CompletesWrites r.table r.image r.undo lent x y o → JointReplays r x y o
replays r x y lent o opened sized (CompletesWrites.stops c p n e) = subst (JointReplays r x y) (sym e) (stopped r x y lent opened sized c p n)
replays r x y lent o opened sized (CompletesWrites.goes_on c p z w q e) = subst (JointReplays r x y) (sym e) (went r x y lent opened sized c p z w q)

pub joint_replayed : JointReplayed
joint_replayed = record { replays = replays }
