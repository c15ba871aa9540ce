-- The parts to which a file opens.
use Rattle.std.specs.Prelude.{◌≡◌, ℕ, List, Ok}
use Rattle.item_store.specs.Rows.{Rows}
use Rattle.keyring_file.specs.Clear.{ClearPart}
use Rattle.keyring_seal.specs.Whole.{opened}
use Rattle.keyring_seal.specs.declared.content.Content.{Content}
use Rattle.collection_store.specs.State.{AreParts}

-- the file opens under the key and the vector to a content with these parts
pub record OpensIn (file key vector : List ℕ) (told : ClearPart) (items : Rows) : Type 0 where
  pub content : Content
  pub opens : opened file key vector ≡ Ok content
  pub parts : AreParts content told items
