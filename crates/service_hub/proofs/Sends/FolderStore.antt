-- What of folder_store may be sent to another thread.
use denote.RattleType.{RattleType}
use denote.Param.Send.{IsSend, sendable}
use Rattle.std.proofs.Crossing as heap
use Rattle.kr_outside.specs.declared.slot.Slot as slot
use Rattle.shared_service.specs.folder_store.specs.contracts.alias_file.AliasFile as AliasFile
use Rattle.shared_service.specs.folder_store.specs.contracts.found_aliases.FoundAliases as FoundAliases
use Rattle.shared_service.specs.folder_store.specs.contracts.opening.LeftAlone as LeftAlone
use Rattle.service_hub.proofs.Sends.KrBase.{Stem-send, Text-send}
use Rattle.service_hub.proofs.Sends.ReplaceSlot.{FileCell-send}

pub LeftAlone-send : (S : RattleType) → IsSend S → IsSend (LeftAlone.the_row S)
LeftAlone-send S of-slot = search (Stem-send, sendable) depth 40

module _ (S : RattleType) (s : slot.Ghosts S.Denot) where
  AliasFile-send : IsSend S → IsSend (AliasFile.the_row S s)
  AliasFile-send of-slot = search (FileCell-send, Text-send, Stem-send, sendable, heap.crosses) depth 40

  pub FoundAliases-send : IsSend S → IsSend (FoundAliases.the_field S s).row
  FoundAliases-send of-slot = search (AliasFile-send, sendable) depth 40
