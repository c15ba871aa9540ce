-- Values are read exactly if the bytes spell them.
use Rattle.dbus_marshal.proofs.UnmarshalLaws.{answer_found, answer_only, answer_few, answer_held, answer_types, answer_fits, types_same}
use Rattle.dbus_marshal.proofs.values.unmarshal.Goals as goal

pub returns-clause-found : goal.returns-clause-found
returns-clause-found c =
    answer_found c.read_values.result c.args.endian _ c.args.place c.args.bytes.now (λ i. (c.type_inv.bytes i).fits) (types_same _ _ c.args.endian c.args.place c.args.bytes.now _ c.types-types.ensures.value c.read_values.ensures)

pub returns-clause-only : goal.returns-clause-only
returns-clause-only c = λ vs m.
    answer_only c.read_values.result c.args.endian _ c.args.place c.args.bytes.now vs c.types-types.ensures.checked m (types_same _ _ c.args.endian c.args.place c.args.bytes.now _ c.types-types.ensures.value c.read_values.ensures)

pub returns-clause-few : goal.returns-clause-few
returns-clause-few c =
    answer_few c.read_values.result c.args.endian _ c.args.place c.args.bytes.now c.types-types.ensures.checked (λ i. (c.type_inv.bytes i).fits)
    (types_same _ _ c.args.endian c.args.place c.args.bytes.now _ c.types-types.ensures.value c.read_values.ensures)

pub returns-clause-held : goal.returns-clause-held
returns-clause-held c =
    answer_held c.read_values.result c.args.endian _ c.args.place c.args.bytes.now c.types-types.ensures.checked (λ i. (c.type_inv.bytes i).fits)
    (types_same _ _ c.args.endian c.args.place c.args.bytes.now _ c.types-types.ensures.value c.read_values.ensures)

pub returns-clause-types : goal.returns-clause-types
returns-clause-types c =
    answer_types c.read_values.result c.args.endian _ c.args.place c.args.bytes.now (λ i. (c.type_inv.bytes i).fits) (types_same _ _ c.args.endian c.args.place c.args.bytes.now _ c.types-types.ensures.value c.read_values.ensures)

pub returns-clause-fits : goal.returns-clause-fits
returns-clause-fits c =
    answer_fits c.read_values.result c.args.endian _ c.args.place c.args.bytes.now (λ i. (c.type_inv.bytes i).fits) (types_same _ _ c.args.endian c.args.place c.args.bytes.now _ c.types-types.ensures.value c.read_values.ensures)
