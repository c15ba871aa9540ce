-- The bytes of each of the server's answers.
use Rattle.std.specs.Prelude.{ℕ, List}
use Rattle.dbus_auth.specs.Answers.{data_line, rejected_line, error_line}
use Rattle.dbus_auth.specs.declared.answer.Reply.{Reply}
use Rattle.dbus_auth.specs.declared.answer.Reply.TheVariants.{Accepted, Data, Rejected, Error}

-- the line of an answer, with its ending
abbrev pub line_of : Reply → List ℕ
line_of (Accepted line) = line
line_of Data = data_line
line_of Rejected = rejected_line
line_of Error = error_line
