-- The fewest bytes that the elements take.
use Rattle.std.proofs.Common.{◌≡◌, ℕ, ◌+◌, ◌*◌, ◌≤◌, List, [], ◌∷◌, length, ap, ◌∙◌, arith}
use Rattle.std.proofs.lemmas.List.{length-append}
use Rattle.kr_base.specs.declared.hashed.HashedPair.{HashedPair}
use Rattle.kr_base.specs.declared.hashed.HashedValue.{HashedValue}
use Rattle.kr_base.specs.declared.hashed.HashedValue.TheVariants as hash
use Rattle.keyring_text.specs.Fields.{number, SpellsNumber, SpellsTime, SpellsString, some, none}
use Rattle.keyring_text.specs.Forms.{Joined, SpellsAll}
use Rattle.keyring_text.proofs.FieldLaws.{length-number, length-time}
use Rattle.keyring_file.specs.declared.area.FullItem.{FullItem}
use Rattle.keyring_file.specs.declared.clear.ClearItem.{ClearItem}
use Rattle.keyring_file.specs.Clear.{ClearPart, pairs_in}
use Rattle.keyring_file.specs.ClearText.{SpellsHashed, SpellsPair, SpellsClearItem, ClearText}
use Rattle.keyring_file.specs.AreaText.{SpellsItem, AreaText}

joined-length : {P Q : List ℕ → Type 0} (bytes : List ℕ) (j : Joined P Q bytes) → length bytes ≡ length j.front + length j.back
joined-length bytes j = ap length j.parts ∙ length-append j.front j.back

number-length : (n : ℕ) (bytes : List ℕ) → SpellsNumber n bytes → length bytes ≡ 4
number-length n bytes s = ap length s.is ∙ length-number n

time-length : (n : ℕ) (bytes : List ℕ) → SpellsTime n bytes → length bytes ≡ 8
time-length n bytes s = ap length s.is ∙ length-time n

string-length : (s bytes : List ℕ) → SpellsString s bytes → 4 ≤ length bytes
string-length s bytes (some lt is) = omega (arith, ap length is, length-append (number (length s)) s, length-number (length s))
string-length s bytes (none s-is is) = omega (arith, ap length is, length-number 4294967295)

hashed-length : (v : HashedValue) (bytes : List ℕ) → SpellsHashed v bytes → 8 ≤ length bytes
hashed-length (hash.Text s) bytes j = omega (arith, joined-length bytes j, ap length j.is_first, length-number 0, string-length s j.back j.is_second)
hashed-length (hash.Number n) bytes j = omega (arith, joined-length bytes j, ap length j.is_first, length-number 1, number-length n j.back j.is_second)

pair-length : (p : HashedPair) (bytes : List ℕ) → SpellsPair p bytes → 12 ≤ length bytes
pair-length p bytes j = omega (arith, joined-length bytes j, string-length p.name j.front j.is_first.string, hashed-length p.value j.back j.is_second)

pairs-length : (ps : List HashedPair) (bytes : List ℕ) → SpellsAll SpellsPair ps bytes → 12 * length ps ≤ length bytes
pairs-length [] bytes is = omega arith
pairs-length (p ∷ ps) bytes j = omega (arith, joined-length bytes j, pair-length p j.front j.is_first, pairs-length ps j.back j.is_second)

item-length : (minor : ℕ) (item : ClearItem) (bytes : List ℕ) → SpellsClearItem minor item bytes → 12 + 12 * length item.hashed ≤ length bytes
item-length minor item bytes j =
    let k = j.is_second in
    let l = k.is_second in
    let m = l.is_first.list in
    omega (
      arith,
      joined-length bytes j,
      joined-length j.back k,
      joined-length k.back l,
      joined-length l.front m,
      number-length item.id.0 j.front j.is_first,
      number-length item.kind k.front k.is_first,
      number-length (length item.hashed) m.front m.is_first,
      pairs-length item.hashed m.back m.is_second,
    )

items-length : (minor : ℕ) (items : List ClearItem) (bytes : List ℕ) → SpellsAll (SpellsClearItem minor) items bytes → 12 * (length items + pairs_in items) ≤ length bytes
items-length minor [] bytes is = omega arith
items-length minor (x ∷ xs) bytes j = omega (arith, joined-length bytes j, item-length minor x j.front j.is_first, items-length minor xs j.back j.is_second)

-- the items of a file and their hashed attributes take 12 bytes each
pub file_few : (file area : List ℕ) (clear : ClearPart) → ClearText file clear area → 12 * (length clear.items + pairs_in clear.items) ≤ length file
file_few file area clear t =
    let j = t.text in
    let a = j.is_first in
    let b = a.is_second in
    let c = b.is_second in
    let d = c.is_second in
    let e = d.is_second.list in
    omega (
      arith,
      joined-length file j,
      joined-length j.front a,
      joined-length a.back b,
      joined-length b.back c,
      joined-length c.back d,
      joined-length d.back e,
      items-length clear.minor clear.items e.back e.is_second,
    )

full-length : (item : FullItem) (bytes : List ℕ) → SpellsItem item bytes → 52 ≤ length bytes
full-length item bytes j =
    let k = j.is_second in
    let l = k.is_second in
    let m = l.is_second in
    let n = m.is_second in
    let o = n.is_second in
    let p = o.is_second in
    let q = p.is_first.keyed.list in
    let r = p.is_second in
    omega (
      arith,
      joined-length bytes j,
      joined-length j.back k,
      joined-length k.back l,
      joined-length l.back m,
      joined-length m.back n,
      joined-length n.back o,
      joined-length o.back p,
      joined-length p.front q,
      joined-length p.back r,
      string-length item.label j.front j.is_first.string,
      string-length item.value k.front k.is_first,
      time-length item.created l.front l.is_first,
      time-length item.modified m.front m.is_first,
      string-length n.is_first.s n.front n.is_first.string,
      o.is_first.len,
      number-length (length p.is_first.pairs) q.front q.is_first,
      number-length (length item.access) r.front r.is_first,
    )

fulls-length : (items : List FullItem) (bytes : List ℕ) → SpellsAll SpellsItem items bytes → 52 * length items ≤ length bytes
fulls-length [] bytes is = omega arith
fulls-length (x ∷ xs) bytes j = omega (arith, joined-length bytes j, full-length x j.front j.is_first, fulls-length xs j.back j.is_second)

-- the items of an area take 52 bytes each
pub area_few : (area : List ℕ) (items : List FullItem) → AreaText area items → 52 * length items ≤ length area
area_few area items t =
    let len : length t.check.back ≡ length t.rest = ap length t.check.is_second in
    omega (arith, joined-length area t.check, len, joined-length t.rest t.text, fulls-length items t.text.front t.text.is_first)
