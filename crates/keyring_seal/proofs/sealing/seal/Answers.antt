use Rattle.std.proofs.Common.{◌≡◌, ℕ, List, Ok, Result, subst}
use Rattle.std.specs.Prelude.{Vec}
use Rattle.std.specs.declared.alloc.Global.{Global}
use Rattle.key_derivation.specs.Kdf.{key_of, vector_of}
use Rattle.keyring_text.specs.Fields.{IsBytes}
use Rattle.keyring_seal.specs.Arranged.{arranged}
use Rattle.keyring_seal.specs.Room.{Seals}
use Rattle.keyring_seal.specs.Whole.{IsFileOf, most_bytes, opened, sealed}
use Rattle.keyring_seal.specs.declared.content.Content.{Content}
use Rattle.keyring_seal.specs.declared.sealing.SealRefused.{SealRefused}
use Rattle.keyring_seal.proofs.SealsLemmas.{seals_measured, seals_over, seals_so, seals_text, seals_within}
use Rattle.keyring_seal.proofs.sealing.seal.Goals as goal

-- the key and the vector are those that were derived
told : (content : Content) (found : Result (Vec ℕ Global) SealRefused) (k v key vector : List ℕ) → k ≡ key → v ≡ vector → Seals most_bytes (sealed content k v) found → Seals most_bytes (sealed content key vector) found
told content found k v key vector e f h = subst (λ (w : List ℕ). Seals most_bytes (sealed content key w) found) f (subst (λ (w : List ℕ). Seals most_bytes (sealed content w v) found) e h)

pub returns-clause-sealed : goal.returns-clause-sealed
returns-clause-sealed c =
    let content = c.args.content.now in
    let key = key_of c.args.key.now in
    let vector = vector_of c.args.key.now in
    let found = c.content_sealed.result in
    let seals = told content found c.key.result c.vector-2.result key vector c.key.ensures c.vector-2.ensures c.content_sealed.ensures in
    seals_text most_bytes (sealed content key vector) found seals

pub returns-clause-is_file : goal.returns-clause-is_file
returns-clause-is_file c =
    let content = c.args.content.now in
    let key = key_of c.args.key.now in
    let vector = vector_of c.args.key.now in
    let found = c.content_sealed.result in
    let seals = told content found c.key.result c.vector-2.result key vector c.key.ensures c.vector-2.ensures c.content_sealed.ensures in
    let bytes : IsBytes vector = subst IsBytes c.vector.ensures c.known_bytes.ensures in
    seals_so most_bytes (sealed content key vector) (λ (file : List ℕ). IsFileOf file key vector (arranged content)) (c.what_is_sealed_opens.ensures.file content key vector c.known_content.ensures c.requires bytes) found seals

pub returns-clause-opens : goal.returns-clause-opens
returns-clause-opens c =
    let content = c.args.content.now in
    let key = key_of c.args.key.now in
    let vector = vector_of c.args.key.now in
    let found = c.content_sealed.result in
    let seals = told content found c.key.result c.vector-2.result key vector c.key.ensures c.vector-2.ensures c.content_sealed.ensures in
    let bytes : IsBytes vector = subst IsBytes c.vector.ensures c.known_bytes.ensures in
    seals_so most_bytes (sealed content key vector) (λ (file : List ℕ). opened file key vector ≡ Ok (arranged content)) (c.what_is_sealed_opens.ensures.opens content key vector c.known_content.ensures c.requires bytes) found seals

pub returns-clause-fits : goal.returns-clause-fits
returns-clause-fits c =
    let content = c.args.content.now in
    let key = key_of c.args.key.now in
    let vector = vector_of c.args.key.now in
    let found = c.content_sealed.result in
    let seals = told content found c.key.result c.vector-2.result key vector c.key.ensures c.vector-2.ensures c.content_sealed.ensures in
    seals_within most_bytes (sealed content key vector) found seals

pub returns-clause-too_large : goal.returns-clause-too_large
returns-clause-too_large c =
    let content = c.args.content.now in
    let key = key_of c.args.key.now in
    let vector = vector_of c.args.key.now in
    let found = c.content_sealed.result in
    let seals = told content found c.key.result c.vector-2.result key vector c.key.ensures c.vector-2.ensures c.content_sealed.ensures in
    seals_over most_bytes (sealed content key vector) found seals

pub returns-clause-measured : goal.returns-clause-measured
returns-clause-measured c =
    let content = c.args.content.now in
    let key = key_of c.args.key.now in
    let vector = vector_of c.args.key.now in
    let found = c.content_sealed.result in
    let seals = told content found c.key.result c.vector-2.result key vector c.key.ensures c.vector-2.ensures c.content_sealed.ensures in
    seals_measured most_bytes (sealed content key vector) found seals
