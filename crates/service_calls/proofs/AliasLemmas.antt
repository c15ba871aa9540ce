-- The plan of an alias that is set, and what was prepared for it.
use Rattle.std.proofs.Common.{◌≡◌, ℕ, Bool, true, cond, List, Option, Some, None, ap, subst}
use Rattle.kr_base.specs.declared.ids.ConnId.{ConnId}
use Rattle.kr_outside.specs.RenameDisk.{Image}
use Rattle.service_events.specs.alias_table.specs.Table.{AliasRows, Change}
use Rattle.service_events.specs.secret_calls.specs.declared.out.ErrorName.TheVariants as name
use Rattle.service_events.specs.service_tables.specs.declared.fate.Fate.{Fate}
use Rattle.service_events.specs.service_tables.specs.Aliases.{IsForAliases, IsPreparedFor, IsPreparedIn, asked_aliases}
use Rattle.service_events.specs.service_tables.specs.Disk.{DiskState}
use Rattle.service_events.specs.service_tables.specs.Opened.{Contents, contents_of}
use Rattle.service_events.specs.service_tables.specs.Slots.{StoresAliases}
use Rattle.service_events.specs.service_tables.specs.State.{State}
use Rattle.service_events.specs.service_tables.specs.Storing.{Brought}
use Rattle.service_events.specs.collection_table.specs.Rows.{Rows}
use Rattle.service_events.specs.AliasCalls.{alias_stored}
use Rattle.service_events.specs.CollectionCalls.{by_fate}
use Rattle.service_events.specs.Plan.{Asks, Set_alias, refused}
use Rattle.service_events.specs.PublicBody as public
use Rattle.service_events.specs.Run.{asked}

-- ---- the plan

module _ (caller : ConnId) (brought : Brought) (alias : List ℕ) (stem : Option (List ℕ)) (state : State) where
  -- there are no more aliases than may be, so the alias is stored
  pub stored-plan : (asked_aliases (contents_of state)).can_set alias stem ≡ true → alias_stored alias stem (asked caller brought state) ≡ Asks (Set_alias alias stem) (by_fate public.Empty)
  stored-plan can = ap (λ b. cond b (Asks (Set_alias alias stem) (by_fate public.Empty)) (refused name.LimitsExceeded)) can

-- ---- what was prepared

for-prepared : (alias : List ℕ) (stem : Option (List ℕ)) (collections : Rows) (change : Change) (aliases : Option AliasRows) → IsPreparedIn alias stem collections change aliases → IsForAliases change aliases
for-prepared alias stem collections change None prepared = absurd prepared
for-prepared alias stem collections change (Some rows) prepared = prepared.fits

-- a change that was prepared for one alias can be stored, and stays so
pub for-found : (old new : Contents) (change left : Change) → (alias : List ℕ) × (stem : Option (List ℕ)) × IsPreparedFor alias stem old change
    → ((alias : List ℕ) (stem : Option (List ℕ)) → IsPreparedFor alias stem old change → IsPreparedFor alias stem new left) → IsForAliases left new.aliases
for-found old new change left (alias, stem, prepared) goes = for-prepared alias stem new.collections left new.aliases (goes alias stem prepared)

pub for-some : (contents : Contents) (change : Change) → (alias : List ℕ) × (stem : Option (List ℕ)) × IsPreparedFor alias stem contents change → IsForAliases change contents.aliases
for-some contents change some = for-found contents contents change change some (λ alias stem prepared. prepared)

-- ---- what was stored, to rows that are equal

pub for-moved : {F S : Type 0} (is_honest is_steady : S → Bool) (faults moment : S → ℕ) (left_since : S → ℕ → Image → Type 0) (may_leave : S → Image → Type 0) (some : Fate)
    (before after after' : Option AliasRows) (old new : DiskState F S) → after ≡ after' → StoresAliases is_honest is_steady faults moment left_since may_leave some before after old new
    → StoresAliases is_honest is_steady faults moment left_since may_leave some before after' old new
for-moved is_honest is_steady faults moment left_since may_leave some before after after' old new same stores =
    subst (λ a. StoresAliases is_honest is_steady faults moment left_since may_leave some before a old new) same stores
