-- The texts of errors (docs/SERVICE.md, "What is written on a message bus"; D-Bus Specification, "Error messages": the first argument of an
-- error, if it is a string, is a text for people).
use Rattle.std.specs.Prelude.{ℕ, List, codes}
use Rattle.dbus_types.specs.declared.complete_type.BasicType.TheVariants as basics
use Rattle.dbus_types.specs.Values.{Val, Vals}
use Rattle.secret_calls.specs.declared.out.ErrorName.{ErrorName}
use Rattle.secret_calls.specs.declared.out.ErrorName.TheVariants as name

-- the text of an error
abbrev pub text_of : ErrorName → List ℕ
text_of name.NotSupported = codes "algorithm not supported"
text_of name.UnknownObject = codes "no such object"
text_of name.UnknownInterface = codes "no such interface"
text_of name.UnknownMethod = codes "no such method"
text_of name.UnknownProperty = codes "no such property"
text_of name.PropertyReadOnly = codes "property is read-only"
text_of name.InvalidArgs = codes "invalid arguments"
text_of name.LimitsExceeded = codes "limit exceeded"
text_of name.IOError = codes "file error"
text_of name.AccessDenied = codes "access denied"
text_of name.IsLocked = codes "collection is locked"
text_of name.NoSession = codes "no such session"
text_of name.NoSuchObject = codes "no such object"
text_of name.AgentTaken = codes "another agent is registered"
text_of name.OldRound = codes "not asked in this round"

-- the body of an error
abbrev pub error_values : ErrorName → Vals
error_values it = Vals.more (Val.text basics.String (text_of it)) Vals.end
