-- A run is a history: every function, granted or refused, does to the table that the bytes mean what its call does, and the notes are the
-- same. Assumes nothing.
use Prim.Native.Nat.{ℕ}
use mathlib.Core.Path.{◌≡◌, refl, sym, ◌∙◌, ap, subst, subst₂}
use mathlib.Core.Bool.{Bool, true, false, cond}
use mathlib.Core.List.{List}
use native.Mathlib.Decide.{ℕ_discrete}
use native.Mathlib.Omega.{arith}
use borrow.Author.Tests.{ne_eqb}
use lib.Dec.{eqb}
use Rattle.rules.specs.declared.Setting.TheVariants.{Board}
use Rattle.rules.specs.declared.AskAnswer.{AskAnswer}
use Rattle.rules.specs.declared.AskAnswer.TheVariants as ask
use Rattle.rules.specs.Table.{Table}
use Rattle.rules.specs.Create.{Change}
use Rattle.rules.specs.Ask.{ask_word}
use Rattle.rules.specs.declared.refusals.Refusal.{Refusal}
use Rattle.rules.specs.Refusals.{number_of}
use Rattle.rules.proofs.Refused.{refusal_not0}
use Rattle.rules.specs.Calls.{Opening, Creation, Creates, Accepts, answer_number, create_refused, create_granted, create_joined, sent_set}
use Rattle.rules.specs.Calls.{Writing, Writes, write_refused, write_granted}
use Rattle.rules.specs.Calls.{Completion, Completes, complete_refused, complete_granted, ask_number, Asks}
use Rattle.rules.proofs.OneAnswer.{ask_one}
use Rattle.demands.specs.History as history
use Rattle.demands.specs.History.{History}
use Rattle.demands.specs.Demand3 as demand
use Rattle.demands.specs.Life.{PowerUp, Lived}
use Rattle.layout.specs.Layout.{table_in, IsTable, bytes_of}
use Rattle.board.specs.Calls.{table_after, CreateEnd, create_end, WriteEnd, write_end, AskCall}
use Rattle.board.proofs.Kept.{Bytes, bytes-of, open_kept, create_kept, write_kept, complete_kept}
use Rattle.firmware.specs.Run.{Run, meant, run_begun, run_create, run_write, run_complete, RunCall, HasRun, RunsOn, HasLived}

-- a history with another table
abbrev with_table : History → Table → History
with_table h next = record {
  table = next;
  image = h.image;
  undo = h.undo;
  opening = h.opening;
  accepted = h.accepted;
  in_flight = h.in_flight;
  landed = h.landed;
}

module _ (r : Run) where
  abbrev t : Table
  t = table_in r.bytes

  create_means : (c : Change) (o : Creation) → Creates t r.image r.undo c o → (answer_number o.answer ≡ 0 → table_in (bytes_of o.table) ≡ o.table)
      → meant (run_create r c (create_end r.bytes o)) ≡ history.after_create (meant r) c o
  unfolding history.after_create
  create_means c o p kept = by (ℕ_discrete (answer_number o.answer) 0)
    where
      refused : (q : Refusal) → let x = create_refused t r.image r.undo q in meant (run_create r c (create_end r.bytes x)) ≡ history.after_create (meant r) c x
      refused q = rw (ne_eqb (number_of q) 0 (refusal_not0 q))

      Same : Creation → Type 0
      Same x = table_in (bytes_of x.table) ≡ x.table → meant (run_create r c (create_end r.bytes x)) ≡ history.after_create (meant r) c x

      -- granted, the change has taken a slot or joined a patch
      granted : Accepts t r.image r.undo c o → Same o
      granted (Accepts.takes own a) =
          subst Same (sym a.whole)
          (λ e. ap (with_table (history.after_create (meant r) c (create_granted t r.image r.undo c a.slot a.hold))) e)
      granted (Accepts.joins does a) =
          subst Same (sym a.whole) (λ e. ap (with_table (history.after_create (meant r) c (create_joined t r.image r.undo c a.slot))) e)

      by : Dec (answer_number o.answer ≡ 0) → meant (run_create r c (create_end r.bytes o)) ≡ history.after_create (meant r) c o
      by (yes z) = granted (p.grant z) (kept z)
      by (no d) =
          subst (λ (x : Creation). meant (run_create r c (create_end r.bytes x)) ≡ history.after_create (meant r) c x) (sym (p.refusal d).2) (refused _)

  write_means : (b : ℕ) (lent : List ℕ) (o : Writing) → Writes t r.image r.undo lent b o
      → (answer_number o.answer ≡ 0 → table_in (bytes_of o.table) ≡ o.table)
      → meant (run_write r b (write_end r.bytes o)) ≡ history.after_write (meant r) b o
  unfolding history.after_write
  write_means b lent o p kept = by (ℕ_discrete (answer_number o.answer) 0)
    where
      refused : (q : Refusal) → let x = write_refused t r.image r.undo lent q in meant (run_write r b (write_end r.bytes x)) ≡ history.after_write (meant r) b x
      refused q = rw (ne_eqb (number_of q) 0 (refusal_not0 q))

      by : Dec (answer_number o.answer ≡ 0) → meant (run_write r b (write_end r.bytes o)) ≡ history.after_write (meant r) b o
      by (yes z) =
          subst (λ (x : Writing). table_in (bytes_of x.table) ≡ x.table → meant (run_write r b (write_end r.bytes x)) ≡ history.after_write (meant r) b x)
          (sym (p.grant z).whole) (λ e. ap (with_table (history.after_write (meant r) b (write_granted t r.image r.undo b (sent_set o.answer)))) e)
          (kept z)
      by (no d) =
          subst (λ (x : Writing). meant (run_write r b (write_end r.bytes x)) ≡ history.after_write (meant r) b x) (sym (p.refusal d).2) (refused _)

  complete_means : (b : ℕ) (o : Completion) → Completes t b o → (answer_number o.answer ≡ 0 → table_in (bytes_of o.table) ≡ o.table)
      → meant (run_complete r b (answer_number o.answer) (table_after (answer_number o.answer) r.bytes o.table)) ≡ history.after_complete (meant r) b o
  unfolding history.after_complete
  complete_means b o p kept = by (ℕ_discrete (answer_number o.answer) 0)
    where
      after : Completion → Run
      after x = run_complete r b (answer_number x.answer) (table_after (answer_number x.answer) r.bytes x.table)

      refused : (q : Refusal) → meant (after (complete_refused t q)) ≡ history.after_complete (meant r) b (complete_refused t q)
      refused q = rw (ne_eqb (number_of q) 0 (refusal_not0 q))

      by : Dec (answer_number o.answer ≡ 0) → meant (after o) ≡ history.after_complete (meant r) b o
      by (yes z) =
          subst (λ (x : Completion). table_in (bytes_of x.table) ≡ x.table → meant (after x) ≡ history.after_complete (meant r) b x)
          (sym (p.grant z)) (λ e. ap (with_table (history.after_complete (meant r) b (complete_granted t b))) e) (kept z)
      by (no d) = subst (λ (x : Completion). meant (after x) ≡ history.after_complete (meant r) b x) (sym (p.refusal d).2) (refused _)

begun_means : (o : Opening) (store undo : List ℕ) → table_in (bytes_of o.table) ≡ o.table
    → meant (run_begun (bytes_of o.table) store undo) ≡ history.begun o store undo
unfolding history.begun
begun_means o store undo kept = ap (with_table (history.begun o store undo)) kept

-- what every run keeps are the bytes of a table
record Good (r : Run) : Type 0 where
  is_table : IsTable r.bytes
  in_bytes : Bytes r.bytes

-- the bytes after a call are a table, written or not
after_table : (k : ℕ) (xs : List ℕ) (next : Table) → IsTable xs → (k ≡ 0 → IsTable (bytes_of next)) → IsTable (table_after k xs next)
after_table k xs next is kept = by (ℕ_discrete k 0)
  where
    by : Dec (k ≡ 0) → IsTable (table_after k xs next)
    by (yes z) = subst (λ (n : ℕ). IsTable (table_after n xs next)) (sym z) (kept z)
    by (no d) = rw (ne_eqb k 0 d) is

after_bytes : (k : ℕ) (xs : List ℕ) (next : Table) → Bytes xs → Bytes (table_after k xs next)
after_bytes k xs next f = by (eqb k 0)
  where
    by : (b : Bool) → Bytes (cond b (bytes_of next) xs)
    by true = bytes-of next
    by false = f

-- every function leaves such bytes, and is a call of the history
record Step (r r' : Run) : Type 0 where
  after : Good r'
  call : history.Call (meant r) (meant r')

step : {r r' : Run} → Good r → RunCall r r' → Step r r'
step {r} g (RunCall.creates c e p) =
    let q = p.is_table g.is_table in
    let o = q.0 in
    let kept = create_kept r.bytes g.in_bytes r.image r.undo c o q.1 in
    subst (λ (x : CreateEnd). Step r (run_create r c x)) (sym q.2) (record {
      after = record {
        is_table = after_table (answer_number o.answer) r.bytes o.table g.is_table (λ z. (kept z).1);
        in_bytes = after_bytes (answer_number o.answer) r.bytes o.table g.in_bytes;
      };
      call = subst (history.Call (meant r)) (sym (create_means r c o q.1 (λ z. (kept z).0))) (history.Call.creates c o q.1);
    })
step {r} g (RunCall.writes b lent e p) =
    let q = p.is_table g.is_table in
    let o = q.0 in
    let kept = write_kept r.bytes g.in_bytes r.image r.undo lent b o q.1 in
    subst (λ (x : WriteEnd). Step r (run_write r b x)) (sym q.2) (record {
      after = record {
        is_table = after_table (answer_number o.answer) r.bytes o.table g.is_table (λ z. (kept z).1);
        in_bytes = after_bytes (answer_number o.answer) r.bytes o.table g.in_bytes;
      };
      call = subst (history.Call (meant r)) (sym (write_means r b lent o q.1 (λ z. (kept z).0))) (history.Call.writes b lent o q.1);
    })
step {r} g (RunCall.completes b k after p) =
    let q = p.is_table g.is_table in
    let o = q.0 in
    let kept = complete_kept r.bytes g.in_bytes b o q.1 in
    subst₂ (λ (x : ℕ) (y : List ℕ). Step r (run_complete r b x y)) (sym q.2) (sym q.3) (record {
      after = record {
        is_table = after_table (answer_number o.answer) r.bytes o.table g.is_table (λ z. (kept z).1);
        in_bytes = after_bytes (answer_number o.answer) r.bytes o.table g.in_bytes;
      };
      call = subst (history.Call (meant r)) (sym (complete_means r b o q.1 (λ z. (kept z).0))) (history.Call.completes b o q.1);
    })
step g (RunCall.asks n k s p) = let q = p.is_table g.is_table in record { after = g; call = history.Call.asks n q.0 q.1 }
step g (RunCall.counts b k n p) = let q = p.is_table g.is_table in record { after = g; call = history.Call.counts b q.0 q.1 }

-- a run is a history
means : {r : Run} → HasRun r → Good r × history.Happened (meant r)
means (HasRun.opens memory store undo first k after l p s) =
    let q = p.sized l in
    let o = q.0 in
    let kept = open_kept first o q.1 in
    subst (λ (x : List ℕ). Good (run_begun x store undo) × history.Happened (meant (run_begun x store undo))) (sym q.3) (
      record { is_table = kept.1; in_bytes = bytes-of o.table },
      subst history.Happened (sym (begun_means o store undo kept.0)) (history.Happened.opens Board first o store undo q.1 s),
    )
means (HasRun.calls w c) = let g = means w in let s = step g.0 c in (s.after, history.Happened.calls g.1 s.call)

pub run_is_history : {r : Run} → HasRun r → history.Happened (meant r)
run_is_history w = (means w).1

-- whose bytes are a table's
pub run_table : {r : Run} → HasRun r → IsTable r.bytes
run_table w = (means w).0.is_table

pub run_bytes : {r : Run} → HasRun r → Bytes r.bytes
run_bytes w = (means w).0.in_bytes

-- in which ask's 3 is its word committed
committed_only : (a : AskAnswer) → 3 ≡ ask_word a → a ≡ ask.Committed
committed_only ask.Waiting e = absurd (omega arith)
committed_only ask.InFlight e = absurd (omega arith)
committed_only ask.Committed e = refl
committed_only (ask.Refused r) e = absurd (omega arith)

pub called_committed : {r : Run} {n k : ℕ} → HasRun r → AskCall r.bytes n k 3 → Asks (table_in r.bytes) n ask.Committed
called_committed {r} {n} w p = let q = p.is_table (means w).0.is_table in subst (Asks (table_in r.bytes) n) (committed_only q.0 q.3) q.1

-- and a later run a later history
later : {r r' : Run} → Good r → RunsOn r r' → Good r' × demand.Later (meant r) (meant r')
later g RunsOn.now = (g, demand.Later.now)
later g (RunsOn.then l c) = let w = later g l in let s = step w.0 c in (s.after, demand.Later.then w.1 s.call)

pub later_is_later : {r r' : Run} → HasRun r → RunsOn r r' → demand.Later (meant r) (meant r')
later_is_later w l = (later (means w).0 l).1

-- what is called committed, ask answers with 3
pub answers_three : {r : Run} {n : ℕ} → HasRun r → Asks (table_in r.bytes) n ask.Committed → (k s : ℕ) → AskCall r.bytes n k s → (k ≡ 0) × (s ≡ 3)
answers_three {r} {n} w c k s p =
    let q = p.is_table (means w).0.is_table in
    let same = ask_one (table_in r.bytes) n q.0 ask.Committed q.1 c in
    (q.2 ∙ ap ask_number same, q.3 ∙ ap ask_word same)

-- and a life of runs is a life
pub life_is_life : {store : List ℕ} {life : List PowerUp} → HasLived store life → Lived store life
life_is_life (HasLived.begins e) = Lived.begins e
life_is_life (HasLived.again r new l w e) = Lived.again (meant r) new (life_is_life l) (run_is_history w) e
