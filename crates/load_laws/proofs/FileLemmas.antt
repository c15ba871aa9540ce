-- How long the file of a collection with short items is.
use Rattle.std.proofs.Common.{◌≡◌, ℕ, ◌+◌, ◌*◌, ◌≤◌, List, [], ◌∷◌, ◌++◌, length, map, nat_eq, refl, ap, ◌∙◌, arith, length-append}
use Rattle.std.specs.List.{AllByRecursion, IsDistinct, flat_map, zip}
use Rattle.keyring_text.specs.Fields.{number, string, time}
use Rattle.keyring_file.specs.Canonical.{front_text, item_text, padding, zeros}
use Rattle.keyring_file.specs.Clear.{ClearPart}
use Rattle.keyring_file.specs.ClearText.{magic, version, most_iterations}
use Rattle.connection_worker.specs.service_events.specs.service_tables.specs.keyring_seal.specs.Arranged.{Row, IsSealable, of_rows, row_number, rows}
use Rattle.connection_worker.specs.service_events.specs.service_tables.specs.keyring_seal.specs.Room.{items_measure, row_text}
use Rattle.connection_worker.specs.service_events.specs.service_tables.specs.keyring_seal.specs.Whole.{sealed}
use Rattle.connection_worker.specs.service_events.specs.service_tables.specs.keyring_seal.proofs.RoomLemmas.{length_number, length_time}
use Rattle.connection_worker.specs.service_events.specs.service_tables.specs.keyring_seal.proofs.SealLemmas.{length-sealed}

-- what comes before the number of items
long-front : (clear : ClearPart) → length clear.salt ≡ 8 → length (front_text clear) ≡ 76 + length clear.name
long-front clear salt =
    let last = clear.salt ++ zeros 16 in
    let iterations = number clear.iterations ++ last in
    let timeout = number clear.timeout ++ iterations in
    let flags = number clear.flags ++ timeout in
    let modified = time clear.modified ++ flags in
    let created = time clear.created ++ modified in
    let name = string clear.name ++ created in
    let minor = version clear.minor ++ name in
    let first : length magic ≡ 16 = refl in
    let second : length (version clear.minor) ≡ 4 = refl in
    let reserved : length (zeros 16) ≡ 16 = refl in
    let whole = length-append magic minor in
    let after_magic = length-append (version clear.minor) name in
    let after_version = length-append (string clear.name) created in
    let label = length-append (number (length clear.name)) clear.name in
    let after_name = length-append (time clear.created) modified in
    let after_created = length-append (time clear.modified) flags in
    let after_modified = length-append (number clear.flags) timeout in
    let after_flags = length-append (number clear.timeout) iterations in
    let after_timeout = length-append (number clear.iterations) last in
    let after_iterations = length-append clear.salt (zeros 16) in
    let long_name = length_number (length clear.name) in
    let long_created = length_time clear.created in
    let long_modified = length_time clear.modified in
    let long_flags = length_number clear.flags in
    let long_timeout = length_number clear.timeout in
    let long_iterations = length_number clear.iterations in
    omega (arith, salt, first, second, reserved, whole, after_magic, after_version, label, after_name, after_created, after_modified, after_flags, after_timeout, after_iterations, long_name, long_created, long_modified, long_flags, long_timeout, long_iterations)

-- an item that takes few bytes, in a file of version 0.0
pub record IsShort (row : Row) : Type 0 where
  pub clear : length (row_text 0 row) ≤ 500
  pub item : length (item_text row.1) ≤ 500

few-clear : (these : List Row) → AllByRecursion IsShort these → length (flat_map (row_text 0) these) ≤ 500 * length these
few-clear [] short = omega arith
few-clear (row ∷ these) short = let sum = length-append (row_text 0 row) (flat_map (row_text 0) these) in omega (arith, sum, short.0.clear, few-clear these short.1)

few-items : (these : List Row) → AllByRecursion IsShort these → length (flat_map item_text (map (λ (row : Row). row.1) these)) ≤ 500 * length these
few-items [] short = omega arith
few-items (row ∷ these) short =
    let sum = length-append (item_text row.1) (flat_map item_text (map (λ (row : Row). row.1) these)) in
    omega (arith, sum, short.0.item, few-items these short.1)

-- the rows of a content that is made of rows are these
pub rows-of : (front : ClearPart) (these : List Row) → rows (of_rows front these) ≡ these
rows-of front these = pass these
  where
    pass : (these : List Row) → zip (map (λ (row : Row). row.0) these) (map (λ (row : Row). row.1) these) ≡ these
    pass [] = refl
    pass (row ∷ these) = ap (λ l. row ∷ l) (pass these)

counted : (these : List Row) → length (map (λ (row : Row). row.1) these) ≡ length (map (λ (row : Row). row.0) these)
counted [] = refl
counted (row ∷ these) = let rest = counted these in omega (arith, rest)

numbers : (these : List Row) → map (λ item. item.id.0) (map (λ (row : Row). row.0) these) ≡ map row_number these
numbers [] = refl
numbers (row ∷ these) = ap (λ l. row.0.id.0 ∷ l) (numbers these)

few-padding : (n : ℕ) → padding n ≤ 15
few-padding n = omega arith

-- the file of short rows is short
pub short-file : (front : ClearPart) (these : List Row) (key vector : List ℕ) → front.minor ≡ 0 → length front.salt ≡ 8 → front.iterations ≤ most_iterations → IsDistinct nat_eq (map row_number these)
    → AllByRecursion IsShort these → length (sealed (of_rows front these) key vector) ≤ 200 + length front.name + 1000 * length these
short-file front these key vector plain salt iterations distinct short =
    let content = of_rows front these in
    let can : IsSealable content = record { counted = counted these; distinct = rw (numbers these) distinct; iterations = iterations } in
    let whole = length-sealed content key vector can in
    let head : length (front_text content.clear) ≡ 76 + length front.name = long-front content.clear salt in
    let clear : length (flat_map (row_text content.clear.minor) (rows content)) ≡ length (flat_map (row_text 0) these) =
    ap (λ (l : List Row). length (flat_map (row_text content.clear.minor) l)) (rows-of front these) ∙ ap (λ n. length (flat_map (row_text n) these)) plain in
    omega (arith, whole, head, clear, few-clear these short, few-items these short, few-padding (items_measure content))
