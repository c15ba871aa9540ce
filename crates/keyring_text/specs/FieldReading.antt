-- Reading from the left: a value and the bytes after it, or the first fault.
use Rattle.std.specs.Prelude.{◌≡◌, ℕ, zero, suc, Bool, not, ◌&&◌, List, [], ◌∷◌, length, take, drop, Result, Ok, Err, nat_lt, nat_eq, if◌then◌else◌}
use Rattle.std.specs.List.{list_any}
use Rattle.std.specs.Str.{is_utf8}
use Rattle.keyring_text.specs.declared.fault.FieldFault.{FieldFault}
use Rattle.keyring_text.specs.declared.fault.FieldFault.TheVariants.{Short, BadText, BadKind}
use Rattle.keyring_text.specs.declared.fault.ReadRefused.{ReadRefused}
use Rattle.keyring_text.specs.declared.fault.ReadRefused.TheVariants as refused
use Rattle.keyring_text.specs.Fields.{number_of, time_of, none_length}

infixl 10 ◌>>=◌
-- what comes after a step, unless the step found a fault
abbrev pub ◌>>=◌ : {A B F : Type 0} → Result A F → (A → Result B F) → Result B F
(Ok x) >>= f = f x
(Err e) >>= f = Err e

-- a refusal is the fault that reading finds, or lack of memory
abbrev pub Fails : {Y F : Type 0} → ReadRefused F → Result Y F → Type 0
Fails refused.OutOfMemory read = Unit {0}
Fails (refused.Fault f) read = read ≡ Err f

-- what a function returned, seen by the view, is the result of reading, unless memory ran out
abbrev pub Gives : {X Y F : Type 0} → (X → Y) → Result X (ReadRefused F) → Result Y F → Type 0
Gives view (Ok x) read = read ≡ Ok (view x)
Gives view (Err e) read = Fails e read

-- the next n bytes
abbrev pub span_at : ℕ → List ℕ → Result (List ℕ × List ℕ) FieldFault
span_at n bytes = if nat_lt (length bytes) n then Err Short else Ok (take n bytes, drop n bytes)

-- a number
unfoldable pub number_at : List ℕ → Result (ℕ × List ℕ) FieldFault
number_at bytes = do
  four ← span_at 4 bytes
  Ok (number_of four.0, four.1)

-- a time
unfoldable pub time_at : List ℕ → Result (ℕ × List ℕ) FieldFault
time_at bytes = do
  eight ← span_at 8 bytes
  Ok (time_of eight.0, eight.1)

-- A string. If it goes past the end, it is Short as a whole.
unfoldable pub string_at : List ℕ → Result (List ℕ × List ℕ) FieldFault
string_at bytes = do
  len ← number_at bytes
  if nat_eq len.0 none_length then Ok ([], len.1) else span_at len.0 len.1

-- whether bytes are UTF-8 without a zero byte
unfoldable pub is_text : List ℕ → Bool
is_text bytes = is_utf8 bytes && not (list_any (nat_eq 0) bytes)

-- the value, if it passes the test
abbrev pub checked : {A F : Type 0} → (A → Bool) → F → A × List ℕ → Result (A × List ℕ) F
checked test fault found = if test found.0 then Ok found else Err fault

-- a text; it is BadText only if the whole string is there
unfoldable pub text_at : List ℕ → Result (List ℕ × List ℕ) FieldFault
text_at bytes = do
  found ← string_at bytes
  checked is_text BadText found

-- this many elements, one after the other
unfoldable pub all_at : {A F : Type 0} → (List ℕ → Result (A × List ℕ) F) → ℕ → List ℕ → Result (List A × List ℕ) F
all_at read zero bytes = Ok ([], bytes)
all_at read (suc n) bytes = do
  first ← read bytes
  others ← all_at read n first.1
  Ok (first.0 ∷ others.0, others.1)

-- This many elements, each a key and what follows it. The fault `twice` comes right after a key that occurred before.
unfoldable pub keyed_at : {A K F : Type 0} → (List ℕ → Result (K × List ℕ) F) → (K → K → Bool) → F → (K → List ℕ → Result (A × List ℕ) F) → List K → ℕ → List ℕ → Result (List A × List ℕ) F
keyed_at key same twice rest seen zero bytes = Ok ([], bytes)
keyed_at key same twice rest seen (suc n) bytes = do
  found ← key bytes
  first ← if list_any (same found.0) seen then Err twice else rest found.0 found.1
  others ← keyed_at key same twice rest (found.0 ∷ seen) n first.1
  Ok (first.0 ∷ others.0, others.1)

-- one such element; `stood` says whether a key occurred before
abbrev pub new_at : {A K F : Type 0} → (List ℕ → Result (K × List ℕ) F) → F → (K → List ℕ → Result (A × List ℕ) F) → (K → Bool) → List ℕ → Result (A × List ℕ) F
new_at key twice rest stood bytes = do
  found ← key bytes
  if stood found.0 then Err twice else rest found.0 found.1

-- a kind, and a value of the form that it names: 0 means the first, 1 the second
abbrev pub kind_at : {A : Type 0} → (List ℕ → Result (A × List ℕ) FieldFault) → (List ℕ → Result (A × List ℕ) FieldFault) → List ℕ → Result (A × List ℕ) FieldFault
kind_at zeroth first bytes = do
  kind ← number_at bytes
  if nat_eq kind.0 0 then zeroth kind.1 else if nat_eq kind.0 1 then first kind.1 else Err BadKind
