-- What is answered to a table that a construction serves, and to one that it does not.
use Rattle.std.specs.Prelude.{Bool, cond, Ok, Err, Result}
use Rattle.fault.specs.declared.NetlistFault.{NetlistFault}
use Rattle.fault.specs.declared.NetlistFault.TheVariants.{MaskLimit}

-- one that would need too many masks is refused
abbrev pub served_answer : Bool → Result (Unit {0}) NetlistFault
served_answer served = cond served (Ok tt) (Err MaskLimit)
