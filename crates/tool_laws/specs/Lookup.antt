-- What `lookup` prints of the items that match.
use Rattle.std.specs.Prelude.{◌≡◌, List, [], ◌∷◌, Some}
use Rattle.keyring_file.specs.declared.area.FullItem.{FullItem}
use Rattle.service_events.specs.collection_table.specs.Rows.{Rows, item_of}
use Rattle.tool_script.specs.declared.steps.ScriptEnd.{ScriptEnd}
use Rattle.tool_script.specs.declared.steps.ScriptStatus.TheVariants as status
use Rattle.tool_script.specs.Script.{done, silent}
use Rattle.tool_laws.specs.Matches.{Item}

-- The end by the matches in unlocked collections and those in locked ones: the value of the first in an unlocked collection is printed, as it is.
-- Without one nothing is printed, and the status says whether there is one in a locked collection.
abbrev pub IsLookedUp : Rows → List Item → List Item → ScriptEnd → Type 0
IsLookedUp rows [] [] end = end ≡ silent status.NotFound
IsLookedUp rows [] (item ∷ locked) end = end ≡ silent status.Locked
IsLookedUp rows (item ∷ items) locked end = (full : FullItem) × (item_of item.0 item.1.0 rows ≡ Some full) × (end ≡ done full.value)
