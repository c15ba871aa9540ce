-- How long the file of a new collection is.
use Rattle.std.proofs.Common.{◌≡◌, ℕ, ◌+◌, ◌++◌, List, [], length, min, nat_eq, nat_le, refl, sym, ap, ◌∙◌, arith}
use Rattle.std.specs.List.{IsDistinct}
use Rattle.std.proofs.lemmas.List.{length-append}
use Rattle.keyring_text.specs.Fields.{number, string, time}
use Rattle.keyring_file.specs.Canonical.{front_text, zeros}
use Rattle.keyring_file.specs.Clear.{ClearPart}
use Rattle.keyring_file.specs.ClearText.{magic, version}
use Rattle.key_derivation.specs.Kdf.{key_of, vector_of}
use Rattle.service_tables.specs.keyring_seal.specs.Room.{measure}
use Rattle.service_tables.specs.keyring_seal.specs.Whole.{most_bytes, sealed}
use Rattle.service_tables.specs.keyring_seal.specs.declared.content.Content.{Content}
use Rattle.service_tables.specs.keyring_seal.proofs.RoomLemmas.{length_number, length_time}
use Rattle.service_tables.specs.keyring_seal.proofs.SealLemmas.{length-sealed}
use Rattle.service_tables.specs.collection_table.specs.Rows.{Rows, room_in}
use Rattle.service_disk.specs.Making.{Plan, content_of, file_of, has_room}

-- what comes before the number of items
long-front : (clear : ClearPart) → length clear.salt ≡ 8 → length (front_text clear) ≡ 76 + length clear.name
long-front clear salt =
    let last = clear.salt ++ zeros 16 in
    let iterations = number clear.iterations ++ last in
    let timeout = number clear.timeout ++ iterations in
    let flags = number clear.flags ++ timeout in
    let modified = time clear.modified ++ flags in
    let created = time clear.created ++ modified in
    let name = string clear.name ++ created in
    let minor = version clear.minor ++ name in
    let first : length magic ≡ 16 = refl in
    let second : length (version clear.minor) ≡ 4 = refl in
    let reserved : length (zeros 16) ≡ 16 = refl in
    let whole = length-append magic minor in
    let after_magic = length-append (version clear.minor) name in
    let after_version = length-append (string clear.name) created in
    let label = length-append (number (length clear.name)) clear.name in
    let after_name = length-append (time clear.created) modified in
    let after_created = length-append (time clear.modified) flags in
    let after_modified = length-append (number clear.flags) timeout in
    let after_flags = length-append (number clear.timeout) iterations in
    let after_timeout = length-append (number clear.iterations) last in
    let after_iterations = length-append clear.salt (zeros 16) in
    let long_name = length_number (length clear.name) in
    let long_created = length_time clear.created in
    let long_modified = length_time clear.modified in
    let long_flags = length_number clear.flags in
    let long_timeout = length_number clear.timeout in
    let long_iterations = length_number clear.iterations in
    omega (arith, salt, first, second, reserved, whole, after_magic, after_version, label, after_name, after_created, after_modified, after_flags, after_timeout, after_iterations, long_name, long_created, long_modified, long_flags, long_timeout, long_iterations)

no-items : IsDistinct nat_eq []
unfolding IsDistinct
no-items = tt

longer : (a b c : List ℕ) → length a ≡ length b → length (a ++ c) ≡ length (b ++ c)
longer a b c same = length-append a c ∙ ap (λ n. n + length c) same ∙ sym (length-append b c)

-- the file is as long with any number of iterations
other-iterations : (content : Content) (n : ℕ) (key vector : List ℕ) → length (front_text content.clear) ≡ length (front_text (record content.clear { iterations = n }))
    → length (sealed content key vector) ≡ length (sealed (record content { clear = record content.clear { iterations = n } }) key vector)
unfolding sealed
other-iterations content n key vector same = search (longer, same)

-- the file of a collection without items has 100 bytes besides its label
pub long-file : (plan : Plan) → length plan.key.salt ≡ 8 → length (file_of plan) ≡ 100 + length plan.label
long-file plan salt =
    let content = content_of plan in
    let none : Content = record content { clear = record content.clear { iterations = 0 } } in
    let same = other-iterations content 0 (key_of plan.key) (vector_of plan.key) (long-front content.clear salt ∙ sym (long-front none.clear salt)) in
    let whole : length (sealed none (key_of plan.key) (vector_of plan.key)) ≡ measure none =
    length-sealed none (key_of plan.key) (vector_of plan.key) (record { counted = refl; distinct = no-items; iterations = omega arith }) in
    let measured : measure none ≡ (length (front_text none.clear) + 8) + 0 + 0 + 16 = refl in
    let front = long-front none.clear salt in
    omega (arith, same, whole, measured, front)

zero-plus : (n : ℕ) → 0 + n ≡ n
zero-plus n = omega arith

-- so it has room if so many bytes have
pub room-tested : (plan : Plan) (these : Rows) → length plan.key.salt ≡ 8 → nat_le (100 + length plan.label) (min most_bytes (room_in these)) ≡ has_room plan these
room-tested plan these salt =
    ap (λ n. nat_le n (min most_bytes (room_in these))) (sym (long-file plan salt)) ∙ ap (λ n. nat_le (length (file_of plan)) (min most_bytes n)) (sym (zero-plus (room_in these)))
