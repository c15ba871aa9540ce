-- The items of the clear part that a change stores.
use Rattle.std.specs.Prelude.{ℕ, Bool, if◌then◌else◌, List, nat_eq, not}
use Rattle.attribute_hash.specs.Hash.{hashes}
use Rattle.kr_base.specs.declared.attributes.AttrValue.{AttrValue}
use Rattle.keyring_file.specs.declared.clear.ClearItem.{ClearItem}

-- the item, with this content type if it has the id
abbrev pub content_set : ℕ → List ℕ → ClearItem → ClearItem
content_set id content item = if nat_eq item.id.0 id then record item { content = content } else item

-- the item, with the hashes of these attributes if it has the id
abbrev pub hashes_set : ℕ → List (List ℕ × AttrValue) → ClearItem → ClearItem
hashes_set id attributes item = if nat_eq item.id.0 id then record item { hashed = hashes attributes } else item

-- the item has another id
abbrev pub is_other : ℕ → ClearItem → Bool
is_other id item = not (nat_eq item.id.0 id)
