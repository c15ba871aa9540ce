-- GNOME keyring file format: the one text in which each part is written.
use Rattle.std.specs.Prelude.{ℕ, ◌-◌, ◌%◌, List, [], ◌++◌, length, replicate, nat_eq, if◌then◌else◌}
use Rattle.std.specs.List.{flat_map}
use Rattle.md5.specs.Md5.{md5}
use Rattle.kr_base.specs.declared.attributes.AttrValue.{AttrValue}
use Rattle.kr_base.specs.declared.attributes.AttrValue.TheVariants as value
use Rattle.kr_base.specs.declared.hashed.HashedPair.{HashedPair}
use Rattle.kr_base.specs.declared.hashed.HashedValue.{HashedValue}
use Rattle.kr_base.specs.declared.hashed.HashedValue.TheVariants as hash
use Rattle.keyring_text.specs.Fields.{number, time, string, none_length}
use Rattle.keyring_file.specs.declared.area.Access.{Access}
use Rattle.keyring_file.specs.declared.area.FullItem.{FullItem}
use Rattle.keyring_file.specs.declared.clear.ClearItem.{ClearItem}
use Rattle.keyring_file.specs.Clear.{ClearPart}
use Rattle.keyring_file.specs.ClearText.{magic, version}

-- the number of elements, and one text for each
abbrev pub list_text : {A : Type 0} → (A → List ℕ) → List A → List ℕ
list_text text xs = number (length xs) ++ flat_map text xs

-- a hashed value with its kind
abbrev pub hashed_text : HashedValue → List ℕ
hashed_text (hash.Text bytes) = number 0 ++ string bytes
hashed_text (hash.Number n) = number 1 ++ number n

-- a hashed attribute
abbrev pub pair_text : HashedPair → List ℕ
pair_text pair = string pair.name ++ hashed_text pair.value

-- a content type, which version 0.0 leaves out
abbrev pub content_text : ℕ → List ℕ → List ℕ
content_text minor content = if nat_eq minor 0 then [] else string content

-- an item of the clear part
abbrev pub clear_item_text : ℕ → ClearItem → List ℕ
clear_item_text minor item = number item.id.0 ++ (number item.kind ++ (list_text pair_text item.hashed ++ content_text minor item.content))

-- this many zero bytes: reserved numbers or padding
abbrev pub zeros : ℕ → List ℕ
zeros n = replicate n 0

-- the name and the two times
abbrev pub name_text : ClearPart → List ℕ
name_text clear = string clear.name ++ (time clear.created ++ time clear.modified)

-- the flags, the timeout, the iterations, the salt, and reserved numbers, which are 0
abbrev pub limits_text : ClearPart → List ℕ
limits_text clear = number clear.flags ++ (number clear.timeout ++ (number clear.iterations ++ (clear.salt ++ zeros 16)))

-- what comes before the number of items in the clear part
abbrev pub front_text : ClearPart → List ℕ
front_text clear =
    magic
    ++ (version clear.minor
    ++ (string clear.name
    ++ (time clear.created
    ++ (time clear.modified
    ++ (number clear.flags
    ++ (number clear.timeout ++ (number clear.iterations ++ (clear.salt ++ zeros 16))))))))

-- the clear part, with the length of an area at its end
abbrev pub clear_text : ClearPart → ℕ → List ℕ
clear_text clear area_length = front_text clear ++ (list_text (clear_item_text clear.minor) clear.items ++ number area_length)

-- a value with its kind
abbrev pub value_text : AttrValue → List ℕ
value_text (value.Text text) = number 0 ++ string text
value_text (value.Number n) = number 1 ++ number n

-- an attribute
abbrev pub attribute_text : List ℕ × AttrValue → List ℕ
attribute_text pair = string pair.0 ++ value_text pair.1

-- an access entry: the reserved string is absent, the reserved number is 0
abbrev pub access_text : Access → List ℕ
access_text access = number access.allowed ++ (string access.display ++ (string access.path ++ (number none_length ++ number 0)))

-- an item's label, secret and times
abbrev pub label_text : FullItem → List ℕ
label_text item = string item.label ++ (string item.value ++ (time item.created ++ time item.modified))

-- an item's attributes and access entries
abbrev pub lists_text : FullItem → List ℕ
lists_text item = list_text attribute_text item.attributes ++ list_text access_text item.access

-- an item: the reserved string is absent, the reserved numbers are 0
abbrev pub item_text : FullItem → List ℕ
item_text item =
    string item.label
    ++ (string item.value
    ++ (time item.created
    ++ (time item.modified
    ++ (number none_length ++ (zeros 16 ++ (list_text attribute_text item.attributes ++ list_text access_text item.access))))))

-- how many zero bytes fill up a whole number of blocks of 16 bytes
abbrev pub padding : ℕ → ℕ
padding n = (16 - n % 16) % 16

-- a text, and the fewest zero bytes of padding
abbrev pub padded : List ℕ → List ℕ
padded text = text ++ zeros (padding (length text))

-- the MD5 of a body (RFC 1321), and the body
abbrev pub checked : List ℕ → List ℕ
checked body = md5 body ++ body

-- the items with their padding
abbrev pub body_text : List FullItem → List ℕ
body_text items = padded (flat_map item_text items)

-- the area: the check, the items and the padding
abbrev pub area_text : List FullItem → List ℕ
area_text items = checked (body_text items)
