-- The interface of a collection: Secret Service API draft 0.2, "org.freedesktop.Secret.Collection". A call on an alias is a call
-- on its collection.
use Rattle.std.specs.Prelude.{ℕ, List, [], Option, Some, None, Result, codes, ok_or, option_map, option_and_then}
use Rattle.kr_base.specs.declared.attributes.AttrValue.{AttrValue}
use Rattle.kr_names.specs.declared.object_name.ObjectName.{ObjectName}
use Rattle.kr_names.specs.declared.object_name.ObjectName.TheVariants as name
use Rattle.dbus_types.specs.Values.{Val, Vals}
use Rattle.dbus_framing.specs.Headers.{one_of}
use Rattle.secret_calls.specs.declared.call.Call.{Call}
use Rattle.secret_calls.specs.declared.call.Call.TheVariants as call
use Rattle.secret_calls.specs.declared.call.CallFault.{CallFault}
use Rattle.secret_calls.specs.declared.call.CallFault.TheVariants as fault
use Rattle.call_arguments.specs.declared.values.ElementType.TheVariants as element
use Rattle.call_arguments.specs.Arguments.{without_arguments, three_of, elements_in, truth_in, attributes_in, property, label_in, secret_in}

-- the name of the interface
abbrev pub interface : List ℕ
interface = codes "org.freedesktop.Secret.Collection"

-- the collection that a call is made on, or the alias that names it
abbrev pub collection_of : Option ObjectName → Option ObjectName
collection_of (Some (name.Collection stem)) = Some (name.Collection stem)
collection_of (Some (name.Alias alias)) = Some (name.Alias alias)
collection_of object = None

-- SearchItems, with the attributes to search for
abbrev pub search_items : Option ObjectName → Vals → Result Call CallFault
search_items object values =
    ok_or (option_and_then (λ collection. option_map (λ wanted. call.SearchCollection collection wanted) (option_and_then attributes_in (one_of values))) (collection_of object))
    fault.InvalidArgs

-- the names of the properties that an item is created with
abbrev pub label_name : List ℕ
label_name = codes "org.freedesktop.Secret.Item.Label"

abbrev pub attributes_name : List ℕ
attributes_name = codes "org.freedesktop.Secret.Item.Attributes"

-- the attributes: none if the property is missing
abbrev pub given_attributes_in : Option Val → Option (List (List ℕ × AttrValue))
given_attributes_in None = Some []
given_attributes_in (Some value) = attributes_in value

-- the label and the attributes among the properties; any other property is ignored
abbrev pub described_by : Vals → Option (List ℕ × List (List ℕ × AttrValue))
described_by properties =
    option_and_then (λ label. option_map (λ attributes. (label, attributes)) (given_attributes_in (property attributes_name properties)))
    (label_in (property label_name properties))

-- the same for a value of type `a{sv}`
abbrev pub description_in : Val → Option (List ℕ × List (List ℕ × AttrValue))
description_in value = option_and_then described_by (elements_in element.Property value)

-- CreateItem in a collection, with the properties, the secret, and whether to replace an item with these attributes
abbrev pub made_with : ObjectName → Val × Val × Val → Option Call
made_with collection arguments =
    option_and_then (λ described. option_and_then (λ secret. option_map (λ replace. call.CreateItem collection described.0 described.1 secret replace)
    (truth_in arguments.2)) (secret_in arguments.1)) (description_in arguments.0)

-- CreateItem
abbrev pub create_item : Option ObjectName → Vals → Result Call CallFault
create_item object values =
    ok_or (option_and_then (λ collection. option_and_then (made_with collection) (three_of values)) (collection_of object)) fault.InvalidArgs

-- the deletion of the collection
abbrev pub deleted : Option ObjectName → Result Call CallFault
deleted object = ok_or (option_map (λ collection. call.DeleteCollection collection) (collection_of object)) fault.InvalidArgs

-- Delete, which takes no arguments
abbrev pub delete : Option ObjectName → Vals → Result Call CallFault
delete object values = without_arguments (deleted object) values
