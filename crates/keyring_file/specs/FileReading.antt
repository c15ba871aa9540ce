-- Reading the two texts of a keyring file from the left: a value, or the first fault.
use Rattle.std.specs.Prelude.{ℕ, ◌%◌, min, Bool, ◌||◌, List, [], ◌∷◌, length, take, drop, Result, Ok, Err, nat_lt, nat_le, nat_eq, if◌then◌else◌}
use Rattle.std.specs.Cmp.Lexicographic.{pointwise}
use Rattle.md5.specs.Md5.{md5}
use Rattle.kr_base.specs.Attributes.{is_name}
use Rattle.kr_base.specs.declared.attributes.AttrValue.{AttrValue}
use Rattle.kr_base.specs.declared.attributes.AttrValue.TheVariants as value
use Rattle.kr_base.specs.declared.hashed.HashedPair.{HashedPair}
use Rattle.kr_base.specs.declared.hashed.HashedValue.{HashedValue}
use Rattle.kr_base.specs.declared.hashed.HashedValue.TheVariants as hash
use Rattle.keyring_text.specs.declared.fault.FieldFault.{FieldFault}
use Rattle.keyring_text.specs.declared.fault.FieldFault.TheVariants as field
use Rattle.keyring_text.specs.declared.fault.ReadRefused.{ReadRefused}
use Rattle.keyring_text.specs.declared.fault.ReadRefused.TheVariants as refused
use Rattle.keyring_text.specs.FieldReading.{◌>>=◌, span_at, number_at, time_at, string_at, text_at, checked, all_at, keyed_at, new_at, kind_at}
use Rattle.keyring_file.specs.declared.area.Access.{Access}
use Rattle.keyring_file.specs.declared.area.FullItem.{FullItem}
use Rattle.keyring_file.specs.declared.clear.ClearItem.{ClearItem}
use Rattle.keyring_file.specs.declared.clear_reading.Front.{Front}
use Rattle.keyring_file.specs.declared.fault.AreaFault.{AreaFault}
use Rattle.keyring_file.specs.declared.fault.AreaFault.TheVariants as area
use Rattle.keyring_file.specs.declared.fault.ClearFault.{ClearFault}
use Rattle.keyring_file.specs.declared.fault.ClearFault.TheVariants as clear
use Rattle.keyring_file.specs.Clear.{ClearPart, plain_content}
use Rattle.keyring_file.specs.ClearText.{magic, most_iterations}
use Rattle.keyring_file.specs.Gathered.{gathered}

-- ---- the clear part

-- a fault of a field, as a fault of the clear part
abbrev pub clear_fault : FieldFault → ClearFault
clear_fault field.Short = clear.Short
clear_fault field.BadText = clear.BadText
clear_fault field.BadKind = clear.BadKind
clear_fault field.DuplicateName = clear.DuplicateName

-- the result of reading a field, with its fault as a fault of the clear part
abbrev pub in_clear : {A : Type 0} → Result A FieldFault → Result A ClearFault
in_clear (Ok x) = Ok x
in_clear (Err fault) = Err (clear_fault fault)

-- a refusal of a field, as a refusal of the clear part
abbrev pub clear_refused : ReadRefused FieldFault → ReadRefused ClearFault
clear_refused refused.OutOfMemory = refused.OutOfMemory
clear_refused (refused.Fault fault) = refused.Fault (clear_fault fault)

-- a hashed value with its kind
unfoldable pub hashed_at : List ℕ → Result (HashedValue × List ℕ) FieldFault
hashed_at bytes =
    kind_at (λ rest. string_at rest >>= λ s. Ok (hash.Text s.0, s.1)) (λ rest. number_at rest >>= λ n. Ok (hash.Number n.0, n.1)) bytes

-- what follows the name of a hashed attribute
unfoldable pub pair_at : List ℕ → List ℕ → Result (HashedPair × List ℕ) FieldFault
pair_at name bytes = do
  found ← hashed_at bytes
  Ok (record { name = name; value = found.0 }, found.1)

-- a hashed attribute; `stood` says whether a name occurred before
abbrev pub new_pair_at : (List ℕ → Bool) → List ℕ → Result (HashedPair × List ℕ) FieldFault
new_pair_at stood bytes = new_at text_at field.DuplicateName pair_at stood bytes

-- this many hashed attributes
unfoldable pub so_many_pairs_at : ℕ → List ℕ → Result (List HashedPair × List ℕ) FieldFault
so_many_pairs_at count bytes = keyed_at text_at is_name field.DuplicateName pair_at [] count bytes

-- the hashed attributes of an item
unfoldable pub pairs_at : List ℕ → Result (List HashedPair × List ℕ) FieldFault
pairs_at bytes = do
  count ← number_at bytes
  so_many_pairs_at count.0 count.1

-- a content type, which version 0.0 leaves out
unfoldable pub content_at : ℕ → List ℕ → Result (List ℕ × List ℕ) FieldFault
content_at minor bytes = if nat_eq minor 0 then Ok (plain_content, bytes) else text_at bytes

-- what follows the number of an item of the clear part
unfoldable pub clear_item_at : ℕ → ℕ → List ℕ → Result (ClearItem × List ℕ) FieldFault
clear_item_at minor id bytes = do
  kind ← number_at bytes
  hashed ← pairs_at kind.1
  content ← content_at minor hashed.1
  Ok (record { id = record { 0 = id }; kind = kind.0; hashed = hashed.0; content = content.0 }, content.1)

-- the number of an item
abbrev pub id_at : List ℕ → Result (ℕ × List ℕ) ClearFault
id_at bytes = in_clear (number_at bytes)

-- the same, with a fault of the clear part
abbrev pub item_behind : ℕ → ℕ → List ℕ → Result (ClearItem × List ℕ) ClearFault
item_behind minor id bytes = in_clear (clear_item_at minor id bytes)

-- an item of the clear part; `stood` says whether a number occurred before
abbrev pub new_item_at : ℕ → (ℕ → Bool) → List ℕ → Result (ClearItem × List ℕ) ClearFault
new_item_at minor stood bytes = new_at id_at clear.DuplicateId (item_behind minor) stood bytes

-- this many items of the clear part
unfoldable pub so_many_items_at : ℕ → ℕ → List ℕ → Result (List ClearItem × List ℕ) ClearFault
so_many_items_at minor count bytes = keyed_at id_at nat_eq clear.DuplicateId (item_behind minor) [] count bytes

-- the items of the clear part
unfoldable pub clear_items_at : ℕ → List ℕ → Result (List ClearItem × List ℕ) ClearFault
clear_items_at minor bytes = do
  count ← id_at bytes
  so_many_items_at minor count.0 count.1

-- The first 16 bytes. If one is there and differs it is Magic, even if others are missing.
unfoldable pub magic_at : List ℕ → Result (Unit {0} × List ℕ) ClearFault
magic_at bytes =
    let n = min (length bytes) 16 in
    if pointwise nat_eq (take n bytes) (take n magic) then (if nat_lt (length bytes) 16 then Err clear.Short else Ok (tt, drop 16 bytes)) else Err clear.Magic

-- one byte of the version, which may be at most this
abbrev pub version_byte_at : ℕ → List ℕ → Result (ℕ × List ℕ) ClearFault
version_byte_at most [] = Err clear.Short
version_byte_at most (b ∷ rest) = if nat_lt most b then Err clear.Version else Ok (b, rest)

-- the minor number of the version
unfoldable pub version_at : List ℕ → Result (ℕ × List ℕ) ClearFault
version_at bytes = do
  major ← version_byte_at 0 bytes
  minor ← version_byte_at 1 major.1
  crypto ← version_byte_at 0 minor.1
  hash ← version_byte_at 0 crypto.1
  Ok (minor.0, hash.1)

-- the flags, the timeout and the iterations, which follow the name and the two times
unfoldable pub numbers_after : List ℕ → ℕ → ℕ → List ℕ → Result (Front × List ℕ) FieldFault
numbers_after name created modified bytes = do
  flags ← number_at bytes
  timeout ← number_at flags.1
  iterations ← number_at timeout.1
  Ok (record { name = name; created = created; modified = modified; flags = flags.0; timeout = timeout.0; iterations = iterations.0 }, iterations.1)

-- the name, the two times, the flags, the timeout, and the iterations before they are tested
unfoldable pub front_at : List ℕ → Result (Front × List ℕ) FieldFault
front_at bytes = do
  name ← text_at bytes
  created ← time_at name.1
  modified ← time_at created.1
  numbers_after name.0 created.0 modified.0 modified.1

-- the same, with iterations that aren't too many
unfoldable pub limited_at : List ℕ → Result (Front × List ℕ) ClearFault
limited_at bytes = in_clear (front_at bytes) >>= checked (λ f. nat_le f.iterations most_iterations) clear.TooManyIterations

-- the salt, and four reserved numbers
unfoldable pub salt_at : List ℕ → Result (List ℕ × List ℕ) FieldFault
salt_at bytes = do
  salt ← span_at 8 bytes
  reserved ← span_at 16 salt.1
  Ok (salt.0, reserved.1)

-- a clear part of these fields
abbrev pub clear_of : ℕ → Front → List ℕ → List ClearItem → ClearPart
clear_of minor front salt items =
    record { name = front.name; created = front.created; modified = front.modified; flags = front.flags; timeout = front.timeout; iterations = front.iterations; salt = salt; items = items; minor = minor }

-- the salt and the items, which follow the version and the front
unfoldable pub items_after : ℕ → Front → List ℕ → Result (ClearPart × List ℕ) ClearFault
items_after minor front bytes = do
  salt ← in_clear (salt_at bytes)
  items ← clear_items_at minor salt.1
  Ok (clear_of minor front salt.0 items.0, items.1)

-- all of the clear part except the length of the area
unfoldable pub clear_at : List ℕ → Result (ClearPart × List ℕ) ClearFault
clear_at bytes = do
  behind ← magic_at bytes
  minor ← version_at behind.1
  front ← limited_at minor.1
  items_after minor.0 front.0 front.1

-- whether an area can't have this length
abbrev pub is_no_area_length : ℕ → Bool
is_no_area_length n = nat_lt n 16 || nat_lt 0 (n % 16)

-- the area of this length, which is all that is left
abbrev pub area_of : ℕ → List ℕ → Result (List ℕ) ClearFault
area_of len bytes =
    if is_no_area_length len then Err clear.AreaLength else if nat_lt (length bytes) len then Err clear.Short else if nat_lt len (length bytes) then Err clear.Trailing else Ok bytes

-- the area, after its length
unfoldable pub encrypted_at : List ℕ → Result (List ℕ) ClearFault
encrypted_at bytes = do
  len ← in_clear (number_at bytes)
  area_of len.0 len.1

-- the whole file: its clear part and its encrypted area
unfoldable pub clear_read : List ℕ → Result (ClearPart × List ℕ) ClearFault
clear_read file = do
  part ← clear_at file
  rest ← encrypted_at part.1
  Ok (part.0, rest)

-- a clear part, and the area that begins at a place of the file
abbrev pub part_and_area : List ℕ → ClearPart × ℕ → ClearPart × List ℕ
part_and_area file found = (found.0, drop found.1 file)

-- ---- the area

-- a fault of a field, as a fault of the area
abbrev pub area_fault : FieldFault → AreaFault
area_fault field.Short = area.Short
area_fault field.BadText = area.BadText
area_fault field.BadKind = area.BadKind
area_fault field.DuplicateName = area.DuplicateName

-- the result of reading a field, with its fault as a fault of the area
abbrev pub in_area : {A : Type 0} → Result A FieldFault → Result A AreaFault
in_area (Ok x) = Ok x
in_area (Err fault) = Err (area_fault fault)

-- a refusal of a field, as a refusal of the area
abbrev pub area_refused : ReadRefused FieldFault → ReadRefused AreaFault
area_refused refused.OutOfMemory = refused.OutOfMemory
area_refused (refused.Fault fault) = refused.Fault (area_fault fault)

-- a value with its kind
unfoldable pub value_at : List ℕ → Result (AttrValue × List ℕ) FieldFault
value_at bytes =
    kind_at (λ rest. text_at rest >>= λ s. Ok (value.Text s.0, s.1)) (λ rest. number_at rest >>= λ n. Ok (value.Number n.0, n.1)) bytes

-- what follows the name of an attribute
unfoldable pub attribute_at : List ℕ → List ℕ → Result ((List ℕ × AttrValue) × List ℕ) FieldFault
attribute_at name bytes = do
  found ← value_at bytes
  Ok ((name, found.0), found.1)

-- an attribute; `stood` says whether a name occurred before
abbrev pub new_attribute_at : (List ℕ → Bool) → List ℕ → Result ((List ℕ × AttrValue) × List ℕ) FieldFault
new_attribute_at stood bytes = new_at text_at field.DuplicateName attribute_at stood bytes

-- this many attributes, in the order of the file
unfoldable pub so_many_attributes_at : ℕ → List ℕ → Result (List (List ℕ × AttrValue) × List ℕ) FieldFault
so_many_attributes_at count bytes = keyed_at text_at is_name field.DuplicateName attribute_at [] count bytes

-- the attributes of an item, in the order of the file
unfoldable pub listed_attributes_at : List ℕ → Result (List (List ℕ × AttrValue) × List ℕ) FieldFault
listed_attributes_at bytes = do
  count ← number_at bytes
  so_many_attributes_at count.0 count.1

-- the attributes of an item, put in order
unfoldable pub attributes_at : List ℕ → Result (List (List ℕ × AttrValue) × List ℕ) FieldFault
attributes_at bytes = do
  pairs ← listed_attributes_at bytes
  Ok (gathered pairs.0, pairs.1)

-- the reserved string and the reserved number, which end an access entry
unfoldable pub reserved_after : Access → List ℕ → Result (Access × List ℕ) FieldFault
reserved_after access bytes = do
  string ← string_at bytes
  reserved ← span_at 4 string.1
  Ok (access, reserved.1)

-- an access entry
unfoldable pub access_at : List ℕ → Result (Access × List ℕ) FieldFault
access_at bytes = do
  allowed ← number_at bytes
  display ← text_at allowed.1
  path ← text_at display.1
  reserved_after (record { allowed = allowed.0; display = display.0; path = path.0 }) path.1

-- this many access entries
unfoldable pub so_many_accesses_at : ℕ → List ℕ → Result (List Access × List ℕ) FieldFault
so_many_accesses_at count bytes = all_at access_at count bytes

-- the access entries of an item
unfoldable pub accesses_at : List ℕ → Result (List Access × List ℕ) FieldFault
accesses_at bytes = do
  count ← number_at bytes
  so_many_accesses_at count.0 count.1

-- the item's last part: its attributes and its access entries
unfoldable pub lists_at : List ℕ → Result ((List (List ℕ × AttrValue) × List Access) × List ℕ) FieldFault
lists_at bytes = do
  attributes ← attributes_at bytes
  access ← accesses_at attributes.1
  Ok ((attributes.0, access.0), access.1)

-- the reserved fields and the lists, which follow an item's label, secret and times
unfoldable pub lists_after : List ℕ → List ℕ → ℕ → ℕ → List ℕ → Result (FullItem × List ℕ) FieldFault
lists_after label secret created modified bytes = do
  string ← string_at bytes
  reserved ← span_at 16 string.1
  lists ← lists_at reserved.1
  Ok (record { label = label; value = secret; created = created; modified = modified; attributes = lists.0.0; access = lists.0.1 }, lists.1)

-- an item
unfoldable pub item_at : List ℕ → Result (FullItem × List ℕ) FieldFault
item_at bytes = do
  label ← text_at bytes
  secret ← string_at label.1
  created ← time_at secret.1
  modified ← time_at created.1
  lists_after label.0 secret.0 created.0 modified.0 modified.1

-- this many items; whatever follows them is padding
unfoldable pub items_read : ℕ → List ℕ → Result (List FullItem) FieldFault
items_read count bytes = do
  items ← all_at item_at count bytes
  Ok items.0

-- whether the first 16 bytes are the MD5 of the rest
unfoldable pub is_checked : List ℕ → Bool
is_checked area = pointwise nat_eq (take 16 area) (md5 (drop 16 area))

-- a decrypted area of this many items
unfoldable pub area_read : ℕ → List ℕ → Result (List FullItem) AreaFault
area_read count bytes =
    if is_checked bytes then in_area (items_read count (drop 16 bytes)) else Err area.CheckDiffers
