-- What the threads of a daemon send to one another, in a file for each crate, a lemma for each type: `search`
-- finds a whole service too large.
pub mod KrBase
pub mod KrItems
pub mod KrNames
pub mod KeyringFile
pub mod StemChoice
pub mod ReplaceSlot
pub mod AliasTable
pub mod FolderStore
pub mod AttributeIndex
pub mod HashedIndex
pub mod ItemStore
pub mod CollectionStore
pub mod CollectionTable
pub mod SessionTable
pub mod PromptState
pub mod SecretCalls
pub mod SignalFanout
pub mod ServiceTables
pub mod ServiceEvents
pub mod ServiceCalls
pub mod ServiceMachine
pub mod ServiceHistory
pub mod SharedTurn
pub mod SharedService
