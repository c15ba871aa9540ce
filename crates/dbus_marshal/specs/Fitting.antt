-- D-Bus Specification, "Type System", "Marshaling": which values a type has, except for the length of their arrays.
use Rattle.std.specs.Prelude.{ℕ, ◌<◌, ◌≡◌, IsTrue, IsFalse}
use Rattle.dbus_types.specs.declared.complete_type.BasicType.TheVariants as basics
use Rattle.dbus_types.specs.Types.{Ty, Tys, is_signature}
use Rattle.dbus_types.specs.Values.{Val, Vals, ty_of, tys_of}
use Rattle.dbus_marshal.specs.Limits.{depth_limit}
use Rattle.dbus_marshal.specs.Wire.{limit_of, is_byte, AreBytes, IsTextOf, Opens}

abbrev mutual
  -- a value of the type, in which at most this many arrays, structs, dict entries and variants are open at once
  pub Fits : ℕ → Ty → Val → Type 0
  Fits depth (Ty.basic b) (Val.number c n) = (c ≡ b) × (n < limit_of b)
  Fits depth (Ty.basic b) (Val.text c bytes) = (c ≡ b) × IsTextOf b bytes
  Fits depth Ty.variant (Val.variant v) = Opens depth (λ fewer. IsTrue (is_signature (Tys.more (ty_of v) Tys.end)) × Fits fewer (ty_of v) v)
  Fits depth (Ty.array t) (Val.array u vs) = Opens depth (λ fewer. (u ≡ t) × EachFits fewer t vs × IsFalse (is_byte t))
  Fits depth (Ty.array t) (Val.bytes bytes) = Opens depth (λ fewer. (t ≡ Ty.basic basics.Byte) × AreBytes bytes)
  Fits depth (Ty.struct ts) (Val.struct vs) = Opens depth (λ fewer. AllFit fewer ts vs)
  Fits depth (Ty.entry key t) (Val.entry k v) = Opens depth (λ fewer. Fits fewer (Ty.basic key) k × Fits fewer t v)
  Fits depth t v = ⊥

  -- values of the types
  pub AllFit : ℕ → Tys → Vals → Type 0
  AllFit depth Tys.end Vals.end = Unit {0}
  AllFit depth (Tys.more t ts) (Vals.more v vs) = Fits depth t v × AllFit depth ts vs
  AllFit depth ts vs = ⊥

  -- values of one type
  pub EachFits : ℕ → Ty → Vals → Type 0
  EachFits depth t Vals.end = Unit {0}
  EachFits depth t (Vals.more v vs) = Fits depth t v × EachFits depth t vs

-- Each value fits the type that it has, with no more containers open at once than may be: so it is spelled by the
-- rules, except for the length of its arrays. Only inside a variant must a signature list the types
-- (docs/DECISIONS.md, "What no signature lists can be written too").
abbrev pub HaveSpelling : Vals → Type 0
HaveSpelling vs = AllFit depth_limit (tys_of vs) vs
