-- The words of faults.
use Rattle.std.proofs.Common.{◌≡◌, refl}
use Rattle.attr_rules.specs.declared.slots.SlotFault.{SlotFault}
use Rattle.attr_rules.specs.declared.slots.SlotFault.TheVariants as faults
use Rattle.printed_texts.specs.PrintedTexts.{word}
use Rattle.component_checks.specs.OnComponents.{fault_word}

-- the word of a fault prints as it is
pub fault_again : (fault : SlotFault) → word (fault_word fault) ≡ fault_word fault
fault_again faults.NoSlotdef = refl
fault_again faults.BadSlotdef = refl
fault_again faults.SlotRange = refl
fault_again faults.NoMemory = refl
