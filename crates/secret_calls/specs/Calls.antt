-- The faults of calls, and the errors that answer them (D-Bus Specification, "Standard Interfaces" and the common
-- errors).
use Rattle.secret_calls.specs.declared.call.CallFault.{CallFault}
use Rattle.secret_calls.specs.declared.call.CallFault.TheVariants as fault
use Rattle.secret_calls.specs.declared.out.ErrorName.{ErrorName}
use Rattle.secret_calls.specs.declared.out.ErrorName.TheVariants as name

-- the error that answers a fault
abbrev pub error_of : CallFault → ErrorName
error_of fault.UnknownObject = name.UnknownObject
error_of fault.UnknownInterface = name.UnknownInterface
error_of fault.UnknownMethod = name.UnknownMethod
error_of fault.UnknownProperty = name.UnknownProperty
error_of fault.PropertyReadOnly = name.PropertyReadOnly
error_of fault.InvalidArgs = name.InvalidArgs
