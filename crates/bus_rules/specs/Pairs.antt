-- D-Bus Specification, "Match Rules": the pairs of a rule, and the signals of which they hold.
use Rattle.std.specs.Prelude.{ℕ, ◌+◌, Bool, true, false, ◌==◌, ◌&&◌, ◌||◌, nat_eq, nat_le, length, List, codes, Option, Some, None, slice_get, slice_index}
use Rattle.std.specs.Cmp.Lexicographic.{pointwise}
use Rattle.std.specs.List.{starts_with}
use denote.Ref.{Bor}
use Rattle.bus_rules.specs.declared.pair.Key.{Key}
use Rattle.bus_rules.specs.declared.pair.Key.TheVariants.{MessageType, Sender, Interface, Member, Path, PathNamespace, Destination, Eavesdrop, Argument}
use Rattle.bus_rules.specs.declared.pair.Pair.{Pair}
use Rattle.bus_rules.specs.declared.pair.Signal.{Signal}

-- whether two runs of bytes are the same
abbrev pub is_same : List ℕ → List ℕ → Bool
is_same one other = pointwise nat_eq one other

-- the place of a key among all keys; no two keys have one place
abbrev pub code_of : Key → ℕ
code_of MessageType = 0
code_of Sender = 1
code_of Interface = 2
code_of Member = 3
code_of Path = 4
code_of PathNamespace = 5
code_of Destination = 6
code_of Eavesdrop = 7
code_of (Argument number) = 8 + number

-- `path_namespace`: the path is the namespace, or continues with `/` after it; every path is in `/`
abbrev pub is_within : List ℕ → List ℕ → Bool
is_within namespace path =
    is_same namespace path
    || is_same namespace (codes "/")
    || (starts_with nat_eq path namespace && (slice_index path (length namespace) == 47))

-- whether a value is there, is of type `s`, and is this text
abbrev pub text_is : List ℕ → Option (Option (Bor (List ℕ))) → Bool
text_is value None = false
text_is value (Some None) = false
text_is value (Some (Some text)) = is_same value text.now

-- `argN`: the same for the value with this number
abbrev pub argument_is : ℕ → List ℕ → List (Option (Bor (List ℕ))) → Bool
argument_is number value arguments = text_is value (slice_get arguments number)

-- the names of the sender of each signal: the service's own, and the one that it is known by
abbrev pub is_service_name : List ℕ → Bool
is_service_name value = is_same value (codes ":1.0") || is_same value (codes "org.freedesktop.secrets")

-- the kinds of messages
abbrev pub is_kind_name : List ℕ → Bool
is_kind_name value =
    is_same value (codes "signal") || is_same value (codes "method_call") || is_same value (codes "method_return") || is_same value (codes "error")

-- whether a key with this value is true of a signal of the service: it has no destination, and is of no other kind
abbrev pub holds_at : Signal → Key → List ℕ → Bool
holds_at signal MessageType value = is_same value (codes "signal")
holds_at signal Sender value = is_service_name value
holds_at signal Interface value = is_same value signal.interface.now
holds_at signal Member value = is_same value signal.member.now
holds_at signal Path value = is_same value signal.path.now
holds_at signal PathNamespace value = is_within value signal.path.now
holds_at signal Destination value = false
holds_at signal Eavesdrop value = true
holds_at signal (Argument number) value = argument_is number value signal.arguments.now

-- whether a pair is true of the signal
abbrev pub holds : Signal → Pair → Bool
holds signal pair = holds_at signal pair.key pair.value

-- whether a key may have this value
abbrev pub may_have : Key → List ℕ → Bool
may_have MessageType value = is_kind_name value
may_have Sender value = true
may_have Interface value = true
may_have Member value = true
may_have Path value = true
may_have PathNamespace value = true
may_have Destination value = true
may_have Eavesdrop value = is_same value (codes "true") || is_same value (codes "false")
may_have (Argument number) value = nat_le number 63

-- whether the pair's key may have its value
abbrev pub is_admissible : Pair → Bool
is_admissible pair = may_have pair.key pair.value
