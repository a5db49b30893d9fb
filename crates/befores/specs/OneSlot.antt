-- Inside this crate, need not be believed: what the private tests answer. No public promise cites this file: those cite befores and added of `rules`.
use Rattle.std.specs.Prelude.{Bool, not, ◌&&◌, ◌||◌, eqb, length}
use Rattle.rules.specs.declared.Slot.{Slot}
use Rattle.rules.specs.Slots.{is_used, is_hard_patch}
use Rattle.rules.specs.Create.{Change, is_in, shares}

-- the slot has a named number: at slot i of ss this is is_named ss c i of `rules`
abbrev pub is_named : Slot → Change → Bool
is_named s c = is_used s.state && is_in s.number c.named

-- the new patch must follow the patch of the slot: at slot i of ss this is is_before ss c i
abbrev pub follows : Slot → Change → Bool
follows s c =
    is_named s c
    || ((is_used s.state && (eqb s.block c.block && shares s.offset s.len c.offset (length c.bytes)))
    || (is_hard_patch s.state && eqb s.block c.block))

-- the slot has a named number and a patch of another block: at slot i of ss this is named_elsewhere ss c i
abbrev pub elsewhere : Slot → Change → Bool
elsewhere s c = is_named s c && not (eqb s.block c.block)
