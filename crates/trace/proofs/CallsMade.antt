-- A record's call made: the run and the line that the definitions give, from what the code has put together. Assumes nothing.
use Prim.Native.Nat.{ℕ}
use mathlib.Core.Path.{◌≡◌}
use mathlib.Core.List.{List}
use Rattle.rules.specs.declared.Setting.TheVariants.{Board}
use Rattle.rules.specs.Create.{Change}
use Rattle.rules.specs.Complete.{landing}
use Rattle.rules.specs.Calls.{answer_number, Opens, Creates, Writes, Completes}
use Rattle.rules.specs.declared.Created.{Created}
use Rattle.cache.specs.declared.types.Answered.{Answered}
use Rattle.cache.specs.Seen.{seen, opening, creation, writing, completion}
use Rattle.records.specs.Record.{opens, creates, writes, completes, cuts}
use Rattle.lines.specs.declared.types.Word.TheVariants as word
use Rattle.lines.specs.declared.types.More.{More}
use Rattle.lines.specs.declared.types.More.TheVariants as more
use Rattle.trace.specs.declared.types.Phase.TheVariants as phase
use Rattle.trace.specs.declared.types.Kept.{Kept}
use Rattle.trace.specs.declared.types.Made.{Made}
use Rattle.tally.specs.Counts.{plus, carried, cut_landing}
use Rattle.trace.specs.Run.{Makes, makes_open, makes_create, makes_write, makes_complete, makes_cut, changes_after, create_more, write_more, blank}
use Rattle.trace.specs.Run.{changes_left, now_committed}
use Rattle.trace.specs.Seen.{run_of}
use Rattle.trace.specs.Inside.{told, kept_with, step_of, MakesAlone}

module _ (k : Kept) {m : Made} where
  pub open_made : {first n : ℕ} (o : Answered (Unit {0})) → Opens Board first (opening o) → n ≡ answer_number o.answer
      → m ≡ told (kept_with k phase.Opened o.table k.changes k.committed) word.Open n more.Nothing → MakesAlone k (opens first) m
  open_made o h e q = λ image undo. rw (q, e) (makes_open (opening o) h)

  module _ (image undo : List ℕ) where
    pub create_made : {c : Change} {n : ℕ} (o : Answered Created) {image' undo' changes : List ℕ} {more : More}
        → Creates (seen k.table) image undo c (creation o image' undo') → n ≡ answer_number o.answer → more ≡ create_more o.answer
        → changes ≡ changes_after o.answer o.table.slots k.changes
        → m ≡ told (kept_with k phase.Opened o.table changes k.committed) word.Create n more
        → Makes (run_of k image undo) (creates c) (step_of m image' undo')
    create_made o {image'} {undo'} h e f g q = rw (q, e, f, g) (makes_create (creation o image' undo') h)

    pub write_made : {b n : ℕ} (o : Answered ℕ) {handed : List ℕ} {more : More}
        → Writes (seen k.table) image undo blank b (writing o image undo handed) → n ≡ answer_number o.answer → more ≡ write_more o.answer
        → m ≡ told (kept_with k phase.Opened o.table k.changes k.committed) word.Write n more
        → Makes (run_of k image undo) (writes b) (step_of m image undo)
    write_made o {handed} h e f q = rw (q, e, f) (makes_write (writing o image undo handed) h)

  pub complete_made : {b n : ℕ} (o : Answered (Unit {0})) {landed committed : ℕ} {changes : List ℕ}
      → Completes (seen k.table) b (completion o) → n ≡ answer_number o.answer → landed ≡ landing k.table.slots b
      → changes ≡ changes_left o.answer landed k.changes → committed ≡ now_committed o.answer landed k.changes k.committed
      → m ≡ told (kept_with k phase.Opened o.table changes committed) word.Complete n more.Nothing → MakesAlone k (completes b) m
  complete_made o h e l f g q = λ image undo. rw (q, e, f, g, l) (makes_complete (completion o) h)

  pub cut_made : {bits n : ℕ} → n ≡ plus k.committed (carried k.changes (cut_landing k.table.slots bits))
      → m ≡ told (kept_with k phase.Over k.table k.changes k.committed) word.Cut n more.Nothing → MakesAlone k (cuts bits) m
  cut_made e q = λ image undo. rw (q, e) makes_cut
