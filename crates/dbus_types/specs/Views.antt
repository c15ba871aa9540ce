-- What the types and values of the program stand for, apart from where they are in memory.
use Rattle.std.specs.Prelude.{List, [], ◌∷◌}
use Rattle.dbus_types.specs.Types.{Ty, Tys, basic, variant, array, struct, entry, end, more}
use Rattle.dbus_types.specs.declared.complete_type.CompleteType.{CompleteType, Basic, Variant, Array', Struct', DictEntry', Row_of-CompleteType, end_of-CompleteType, more_of-CompleteType}

abbrev mutual
  -- the tree of a complete type
  pub type_of : CompleteType → Ty
  type_of (Basic b) = basic b
  type_of Variant = variant
  type_of (Array' place t) = array (type_of t)
  type_of (Struct' shape row) = struct (row_types row)
  type_of (DictEntry' key place t) = entry key (type_of t)

  -- the trees of the types in a row
  pub row_types : {m : _} → Row_of-CompleteType m → Tys
  row_types end_of-CompleteType = end
  row_types (more_of-CompleteType t rest) = more (type_of t) (row_types rest)

-- the trees of types, one after the other
abbrev pub types_of : List CompleteType → Tys
types_of [] = end
types_of (t ∷ ts) = more (type_of t) (types_of ts)
