-- `reader::next_in` meets its contract. Assumes nothing.
use Rattle.std.proofs.Common.{ℕ, ◌+◌, ◌≡◌, ◌∙◌, sym, Bool, List, length, arith}
use borrow.Author.Tests.{lt-ltb, le-ltb}
use Rattle.records.specs.declared.tag.Tag.TheVariants as tag
use Rattle.records.specs.Reader.{number_at, formed, next_in}
use Rattle.records.proofs.Forms.{unknown}
use Rattle.records.proofs.Numbers.{number_1, size_read}
use Rattle.records.proofs.reader.next_in.Goals as goal

-- the form that was judged is that of the tag and the length in the bytes
form_read : (w : List ℕ) {tag n : ℕ} {r : Bool} → number_at w 0 1 ≡ tag → n ≡ number_at w 1 2 → r ≡ formed tag n
    → formed (number_at w 0 1) (number_at w 1 2) ≡ r
form_read w e f g = rw (e, ← f) (sym g)

pub returns-in_default : goal.returns-in_default
unfolding next_in
returns-in_default c = rw (lt-ltb (length c.args.bytes.now) 3 c.in_default.len_below)

pub returns-in_default-try_from : goal.returns-in_default-try_from
unfolding next_in
returns-in_default-try_from c =
    let w = c.args.bytes.now in
    let head = le-ltb (length w) 3 c.in-len3-up.len_at_least in
    let d = c.in_default-try_from.ensures in
    let none = sym (unknown (number_at w 1 2) _ (d tag.Open) (d tag.Create) (d tag.Write) (d tag.Complete) (d tag.Cut)) in
    rw (head, number_1 w 0, none)

pub returns-then-not-takes : goal.returns-then-not-takes
unfolding next_in
returns-then-not-takes c =
    let w = c.args.bytes.now in
    let head = le-ltb (length w) 3 c.in-len3-up.len_at_least in
    let read = form_read w (number_1 w 0 ∙ c.in-Ok.ensures) (c.from-n.ensures ∙ c.from_be_bytes.ensures ∙ size_read w) c.takes.ensures in
    rw (head, read, c.if-not-takes.true)

pub returns-then-bytes-n : goal.returns-then-bytes-n
unfolding next_in
returns-then-bytes-n c =
    let w = c.args.bytes.now in
    let head = le-ltb (length w) 3 c.in-len3-up.len_at_least in
    let size = c.from-n.ensures ∙ c.from_be_bytes.ensures ∙ size_read w in
    let read = form_read w (number_1 w 0 ∙ c.in-Ok.ensures) size c.takes.ensures in
    let short = lt-ltb (length w) (3 + number_at w 1 2) (omega (arith, size, c.if-bytes-n.true)) in
    rw (head, read, c.if-not-takes.false, short, size)

pub returns : goal.returns
unfolding next_in
returns c =
    let w = c.args.bytes.now in
    let head = le-ltb (length w) 3 c.in-len3-up.len_at_least in
    let size = c.from-n.ensures ∙ c.from_be_bytes.ensures ∙ size_read w in
    let tag = number_1 w 0 ∙ c.in-Ok.ensures in
    let read = form_read w tag size c.takes.ensures in
    let long = le-ltb (length w) (3 + number_at w 1 2) (omega (arith, size, c.if-bytes-n.false)) in
    rw (head, read, c.if-not-takes.false, long, c.value_in.ensures, size, tag)
