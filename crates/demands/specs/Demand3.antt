-- Demand 3: what the store holds if the supply is cut at an arbitrary moment.
use Rattle.std.specs.Prelude.{ℕ, ◌+◌, ◌≤◌, ◌<◌, ◌≡◌, Bool, true, false, cond, ◌||◌, ◌⊎◌, eqb}
use mathlib.Core.List.{List, [], ◌∷◌, ◌++◌, Memᴰ}
use Rattle.spans.specs.Spans.{splice}
use Rattle.rules.specs.declared.AskAnswer.TheVariants as ask
use Rattle.rules.specs.Sizes.{block_start}
use Rattle.rules.specs.Table.{Old}
use Rattle.rules.specs.Create.{is_in, changed}
use Rattle.rules.specs.Calls.{Writing, Writes, answer_number, Asks}
use Rattle.demands.specs.History.{History, Accepted, Sent, those, Call}

-- the store once writes are there, each block wholly new; the newest write is first in the list
unfoldable pub written : List Sent → List ℕ → List ℕ
written [] store = store
written (w ∷ older) store = splice (written older store) (block_start w.block) w.bytes

-- the writes that are on the store after a cut: those that had landed, and of those in flight any that the cut lets be; `new b` says whether block b's is there
unfoldable pub on_store : (ℕ → Bool) → History → List Sent
on_store new h = those (λ w. new w.block) h.in_flight ++ h.landed

-- the store after the cut: every other block in flight is wholly old
unfoldable pub store_after_cut : (ℕ → Bool) → History → List ℕ
store_after_cut new h = written (on_store new h) h.opening

-- a number that one of the writes sent
unfoldable pub sent_in : ℕ → List Sent → Bool
sent_in n [] = false
sent_in n (w ∷ older) = is_in n w.numbers || sent_in n older

-- the change is landed: a write that is on the store sent its number
unfoldable pub has_landed : (ℕ → Bool) → History → Accepted → Bool
has_landed new h a = sent_in a.number (on_store new h)

-- those changes of a list, newest first, that pass the test carried out singly, in the order accepted
unfoldable pub carried_out : (Accepted → Bool) → List Accepted → List ℕ → List ℕ
carried_out test [] store = store
carried_out test (a ∷ older) store = let before = carried_out test older store in cond (test a) (changed before a.change) before

-- in a list of changes, newest first, x was accepted earlier than y: by their places in it, as several changes may have one number. A change that was accepted
-- twice may be earlier than itself
pub data Earlier : List Accepted → Accepted → Accepted → Type 0 where
  -- y is the newest, and x is among the older ones
  here : {y x : Accepted} {older : List Accepted} → Memᴰ x older → Earlier (y ∷ older) y x
  -- or both are among the older ones, in this order
  there : {a y x : Accepted} {older : List Accepted} → Earlier older y x → Earlier (a ∷ older) y x

-- y asked to have x before it: x was accepted earlier, and y's caller named x's number. Of several changes that were answered one number these are those
-- accepted before y, and no later one
pub record AskedFor (h : History) (y x : Accepted) : Type 0 where
  pub earlier : Earlier h.accepted y x
  pub named : is_in x.number y.change.named ≡ true

-- straight or through others
pub data Follows (h : History) : Accepted → Accepted → Type 0 where
  straight : {y x : Accepted} → AskedFor h y x → Follows h y x
  through : {y z x : Accepted} → AskedFor h y z → Follows h z x → Follows h y x

-- the cut did no harm
pub record CutSafe (h : History) (new : ℕ → Bool) : Type 0 where
  -- the store is the opening with the landed changes carried out singly in accepted order, byte for byte
  pub holds : store_after_cut new h ≡ carried_out (has_landed new h) h.accepted h.opening
  -- and what a landed change asked to have before it, straight or through others, is landed too
  pub closed : (y x : Accepted) → has_landed new h y ≡ true → Follows h y x → has_landed new h x ≡ true

-- how often a number stands in a list, and how often it was sent
unfoldable pub times_in : ℕ → List ℕ → ℕ
times_in n [] = 0
times_in n (m ∷ l) = cond (eqb n m) 1 0 + times_in n l

unfoldable pub times_sent : ℕ → List Sent → ℕ
times_sent n [] = 0
times_sent n (w ∷ ws) = times_in n w.numbers + times_sent n ws

-- beside it, so that nothing is won by forgetting: the notes are true
pub record NotesTrue (h : History) : Type 0 where
  -- every number from first to next - 1 is that of an accepted change
  pub issued : (n : ℕ) → h.table.first ≤ n → n < h.table.next → (a : Accepted) × Memᴰ a h.accepted × (a.number ≡ n)
  -- and no accepted change has an old number: a name below first asks for no change of this history
  pub none_old : (a : Accepted) → Memᴰ a h.accepted → h.table.first ≤ a.number
  -- every number that a change named is an old one, or that of one accepted earlier
  pub named : (y : Accepted) → Memᴰ y h.accepted → (n : ℕ) → is_in n y.change.named ≡ true
      → Old h.table.first n ⊎ ((x : Accepted) × Earlier h.accepted y x × (x.number ≡ n))
  -- every number sent is that of at least one accepted change, and every change that was answered it is of the write's block
  pub known : (w : Sent) → Memᴰ w (h.in_flight ++ h.landed) → (n : ℕ) → is_in n w.numbers ≡ true
      → (a : Accepted) × Memᴰ a h.accepted × (a.number ≡ n)
  pub of_block : (w : Sent) → Memᴰ w (h.in_flight ++ h.landed) → (n : ℕ) → is_in n w.numbers ≡ true
      → (a : Accepted) → Memᴰ a h.accepted → a.number ≡ n → a.change.block ≡ w.block
  -- and it was sent once
  pub once : (n : ℕ) → times_sent n (h.in_flight ++ h.landed) ≤ 1
  -- a granted write finds nothing in flight to its block
  pub alone : (b : ℕ) (lent : List ℕ) (o : Writing) → Writes h.table h.image h.undo lent b o → answer_number o.answer ≡ 0
      → (w : Sent) → Memᴰ w h.in_flight → w.block ≡ b → ⊥
  -- a number that ask calls waiting was never sent
  pub waiting : (n : ℕ) → Asks h.table n ask.Waiting → sent_in n (h.in_flight ++ h.landed) ≡ false
  -- one that it calls in flight is in a write that is out
  pub flying : (n : ℕ) → Asks h.table n ask.InFlight → sent_in n h.in_flight ≡ true
  -- and one that it calls committed is an old one or a landed one: whatever a cut lets be, this is on the store with all its changes
  pub committed : (n : ℕ) → Asks h.table n ask.Committed → Old h.table.first n ⊎ (sent_in n h.landed ≡ true)
  pub with_all : (n : ℕ) → Asks h.table n ask.Committed → (a : Accepted) → Memᴰ a h.accepted → a.number ≡ n
      → (new : ℕ → Bool) → has_landed new h a ≡ true

-- the history h with any further calls
pub data Later (h : History) : History → Type 0 where
  now : Later h h
  then : {h' h'' : History} → Later h h' → Call h' h'' → Later h h''

-- the change is on the store for good: after any further calls and any cut it is among the accepted changes, and landed
abbrev pub ForGood : History → Accepted → Type 0
ForGood h a = (h' : History) → Later h h' → (new : ℕ → Bool) → Memᴰ a h'.accepted × (has_landed new h' a ≡ true)
