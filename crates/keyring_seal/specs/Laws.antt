-- Laws of the definitions of whole files.
use Rattle.std.specs.Prelude.{◌≡◌, ℕ, ◌≤◌, List, length, Ok}
use Rattle.keyring_text.specs.Fields.{IsBytes}
use Rattle.keyring_seal.specs.declared.content.Content.{Content}
use Rattle.keyring_seal.specs.Arranged.{IsArrangement, IsKnown, IsSealable, arranged}
use Rattle.keyring_seal.specs.Whole.{IsFileOf, most_bytes, opened, sealed}

-- a file of a content opens to that content, and so to no other one
abbrev pub FilesOpen : Type 0
FilesOpen = (file key vector : List ℕ) (content : Content) → IsFileOf file key vector content → opened file key vector ≡ Ok content

-- the file to which a content is sealed is a file of the content as it is arranged, if it is small enough for a file
abbrev pub SealedAreFiles : Type 0
SealedAreFiles =
    (content : Content) (key vector : List ℕ) → IsKnown content → IsSealable content → IsBytes vector → length (sealed content key vector) ≤ most_bytes → IsFileOf (sealed content key vector) key vector (arranged content)

-- and it opens to that
abbrev pub SealedOpen : Type 0
SealedOpen =
    (content : Content) (key vector : List ℕ) → IsKnown content → IsSealable content → IsBytes vector → length (sealed content key vector) ≤ most_bytes → opened (sealed content key vector) key vector ≡ Ok (arranged content)

-- a content that can be sealed has an arrangement
abbrev pub ArrangedAreArrangements : Type 0
ArrangedAreArrangements = (content : Content) → IsSealable content → IsArrangement content (arranged content)

-- no other content is an arrangement of it
abbrev pub ArrangedAlone : Type 0
ArrangedAlone = (content made : Content) → IsSealable content → IsArrangement content made → made ≡ arranged content

-- arranging again changes nothing
abbrev pub ArrangedStay : Type 0
ArrangedStay = (content : Content) → arranged (arranged content) ≡ arranged content
