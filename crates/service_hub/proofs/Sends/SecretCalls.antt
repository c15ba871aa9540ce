-- What of secret_calls may be sent to another thread.
use denote.Param.Send.{IsSend, IsSync, sendable}
use Rattle.std.proofs.Crossing as heap
use Rattle.shared_service.specs.secret_calls.specs.contracts.alias.AliasName as AliasName
use Rattle.shared_service.specs.secret_calls.specs.contracts.call.Call as Call
use Rattle.shared_service.specs.secret_calls.specs.contracts.call.Request as Request
use Rattle.shared_service.specs.secret_calls.specs.contracts.changed.ChangedObject as ChangedObject
use Rattle.shared_service.specs.secret_calls.specs.contracts.out.Body as Body
use Rattle.shared_service.specs.secret_calls.specs.contracts.out.Out as Out
use Rattle.shared_service.specs.secret_calls.specs.contracts.property.Attribute as Attribute
use Rattle.shared_service.specs.secret_calls.specs.contracts.property.Property as Property
use Rattle.shared_service.specs.secret_calls.specs.contracts.property.PropertyValue as PropertyValue
use Rattle.shared_service.specs.secret_calls.specs.contracts.property.ShownProperty as ShownProperty
use Rattle.shared_service.specs.secret_calls.specs.contracts.secret.ItemSecret as ItemSecret
use Rattle.shared_service.specs.secret_calls.specs.contracts.secret.ReturnedSecret as ReturnedSecret
use Rattle.shared_service.specs.secret_calls.specs.contracts.secret.Secret as Secret
use Rattle.shared_service.specs.secret_calls.specs.contracts.shared.SharedSignal as SharedSignal
use Rattle.shared_service.specs.secret_calls.specs.contracts.shared.SizedSignal as SizedSignal
use Rattle.shared_service.specs.secret_calls.specs.contracts.signal.Completion as Completion
use Rattle.shared_service.specs.secret_calls.specs.contracts.signal.Signal as Signal
use Rattle.service_hub.proofs.Sends.KrBase.{Attributes-send, Bytes-send, Stem-send, Text-send, Text-sync}
use Rattle.service_hub.proofs.Sends.KrItems.{Items-send, Items-sync}
use Rattle.service_hub.proofs.Sends.KrNames.{ObjectName-field-send, ObjectName-send}

AliasName-send : IsSend AliasName.the_row
AliasName-send = search (Text-send, sendable) depth 30

Secret-send : IsSend (Secret.the_field).row
Secret-send = search (Bytes-send, Text-send, sendable) depth 40

Property-send : IsSend Property.the_row
Property-send = search sendable depth 40

Property-field-send : IsSend (Property.the_field).row
Property-field-send = search sendable depth 40

Call-send : IsSend Call.the_row
Call-send =
    search (Text-send, Bytes-send, Stem-send, Attributes-send, AliasName-send, ObjectName-send, ObjectName-field-send, Secret-send, Property-send, Property-field-send, Items-send, sendable) depth 40 fits 20000

pub Request-send : IsSend (Request.the_field).row
Request-send = search (Call-send, sendable) depth 40

ReturnedSecret-send : IsSend (ReturnedSecret.the_field).row
ReturnedSecret-send = search (Bytes-send, Text-send, sendable) depth 40

ItemSecret-send : IsSend ItemSecret.the_row
ItemSecret-send = search (Text-send, ReturnedSecret-send, sendable) depth 40

Attribute-send : IsSend Attribute.the_row
Attribute-send = search (Text-send, sendable) depth 40

PropertyValue-send : IsSend (PropertyValue.the_field).row
PropertyValue-send = search (Text-send, Attribute-send, Items-send, sendable) depth 40

ShownProperty-send : IsSend ShownProperty.the_row
ShownProperty-send = search (Property-field-send, PropertyValue-send, sendable) depth 40

Body-send : IsSend (Body.the_field).row
Body-send = search (Text-send, ReturnedSecret-send, ItemSecret-send, PropertyValue-send, ShownProperty-send, Items-send, sendable) depth 40 fits 20000

Completion-send : IsSend (Completion.the_field).row
Completion-send = search (Text-send, Items-send, sendable) depth 40

ChangedObject-send : IsSend (ChangedObject.the_field).row
ChangedObject-send = search (Text-send, sendable) depth 40

Signal-send : IsSend (Signal.the_field).row
Signal-send = search (Text-send, Completion-send, ChangedObject-send, ShownProperty-send, Property-send, Items-send, sendable) depth 40 fits 20000

-- a signal that is shared is read by several threads
Completion-sync : IsSync (Completion.the_field).row
Completion-sync = search (Text-sync, Items-sync, sendable) depth 40

Attribute-sync : IsSync Attribute.the_row
Attribute-sync = search (Text-sync, sendable) depth 40

PropertyValue-sync : IsSync (PropertyValue.the_field).row
PropertyValue-sync = search (Text-sync, Attribute-sync, Items-sync, sendable) depth 40

Property-sync : IsSync Property.the_row
Property-sync = search sendable depth 40

Property-field-sync : IsSync (Property.the_field).row
Property-field-sync = search sendable depth 40

ShownProperty-sync : IsSync ShownProperty.the_row
ShownProperty-sync = search (Property-field-sync, PropertyValue-sync, sendable) depth 40

ChangedObject-sync : IsSync (ChangedObject.the_field).row
ChangedObject-sync = search (Text-sync, sendable) depth 40

Signal-sync : IsSync (Signal.the_field).row
Signal-sync = search (Text-sync, Completion-sync, ChangedObject-sync, ShownProperty-sync, Property-sync, Items-sync, sendable) depth 40 fits 20000

SizedSignal-send : IsSend SizedSignal.the_row
SizedSignal-send = search (Signal-send, sendable) depth 40

SizedSignal-sync : IsSync SizedSignal.the_row
SizedSignal-sync = search (Signal-sync, sendable) depth 40

SharedSignal-send : IsSend SharedSignal.the_row
SharedSignal-send = search (SizedSignal-send, SizedSignal-sync, sendable, heap.crosses) depth 40

pub Out-send : IsSend Out.the_row
Out-send = search (Body-send, SharedSignal-send, sendable) depth 40
