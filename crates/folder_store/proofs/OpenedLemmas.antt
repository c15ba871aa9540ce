-- From going through the names to what a start makes of the images.
use Rattle.std.proofs.Common.{◌≡◌, ◌⊎◌, ⊎_elim, inl, inr, ◌↔◌, ℕ, List, [], ◌∷◌, ◌++◌, true, false, None, Some, IsSome, suc, zero, refl, sym, ◌∙◌, ap, subst, arith}
use Rattle.std.specs.List.{Contains, AllByRecursion}
use Rattle.std.specs.Map.{keys_of}
use Rattle.std.specs.declared.cmp.Ordering.{Ordering}
use Rattle.std.specs.declared.cmp.Ordering.TheVariants.{Less, Equal, Greater}
use Rattle.std.specs.Ordering.{nat_cmp, is_eq}
use Rattle.std.specs.Cmp.Lexicographic.{slice_cmp, nat_list_cmp_total}
use Rattle.std.proofs.lemmas.Bool.{cases_Bool}
use Rattle.std.proofs.lemmas.Cmp.{tied_itself}
use Rattle.std.proofs.lemmas.Map.Entries.{lookup_head, lookup_tail}
use Rattle.std.proofs.lemmas.Map.Lookups.{exact_bytes}
use Rattle.kr_base.specs.Attributes.{is_name, value_at}
use Rattle.kr_outside.specs.RenameDisk.{Image}
use Rattle.alias_text.specs.Pairs.{GivesAliases}
use Rattle.folder_store.specs.declared.limits.Limits.{Limits}
use Rattle.folder_store.specs.Names.{aliases}
use Rattle.folder_store.specs.Opened.{Opening, Opened}

-- each of the files is the image of its name
abbrev pub AreTold : (List ℕ → Image) → List (List ℕ × List ℕ) → Type 0
AreTold images files = AllByRecursion (λ file. images file.0 ≡ Some file.1) files

pub told_push : (images : List ℕ → Image) (files : List (List ℕ × List ℕ)) (file : List ℕ × List ℕ) → AreTold images files → images file.0 ≡ Some file.1 → AreTold images (files ++ file ∷ [])
told_push images [] file tt here = (here, tt)
told_push images (first ∷ files) file (head, rest) here = (head, told_push images files file rest here)

pub keys_push : (files : List (List ℕ × List ℕ)) (file : List ℕ × List ℕ) → keys_of (files ++ file ∷ []) ≡ keys_of files ++ file.0 ∷ []
keys_push [] file = refl
keys_push (first ∷ files) file = ap (λ l. first.0 ∷ l) (keys_push files file)

same_name : (name : List ℕ) → is_name name name ≡ true
same_name name = ap is_eq (tied_itself nat_list_cmp_total name)

pub cons_cases : (x : List ℕ) (xs : List (List ℕ)) (name : List ℕ) → Contains (x ∷ xs) name → (name ≡ x) ⊎ Contains xs name
cons_cases x xs name (zero, in_range, is) = inl (sym is)
cons_cases x xs name (suc k, in_range, is) = inr (k, omega (arith, in_range), is)

by_eq : (o : Ordering) → is_eq o ≡ true → o ≡ Equal
by_eq Less is = absurd (let never : ⊥ = cc in never)
by_eq Equal is = refl
by_eq Greater is = absurd (let never : ⊥ = cc in never)

pub by_name : (name other : List ℕ) → is_name name other ≡ true → name ≡ other
by_name name other is = exact_bytes name other (by_eq (slice_cmp nat_cmp name other) is)

-- a name stands for its file, or isn't the name of one of the files
found : (images : List ℕ → Image) (files : List (List ℕ × List ℕ)) (name : List ℕ) → AreTold images files
    → (value_at name files ≡ images name) ⊎ ((value_at name files ≡ None) × ¬ (Contains (keys_of files) name))
found images [] name told = inr (refl, λ has. absurd (omega (arith, has.1)))
found images (file ∷ files) name (here, told) = ⊎_elim
    (λ at. inl (lookup_head (is_name name) file files at ∙ sym here ∙ ap images (sym (by_name name file.0 at))))
    (λ off. ⊎_elim
    (λ later. inl (lookup_tail (is_name name) file files off ∙ later))
    (λ absent. inr (
      lookup_tail (is_name name) file files off ∙ absent.0,
      λ has. ⊎_elim
          (λ same. let wrong : true ≡ false = sym (same_name name) ∙ ap (λ n. is_name name n) same ∙ off in cc)
          (λ more. absent.1 more)
          (cons_cases file.0 (keys_of files) name has),
    ))
    (found images files name told))
    (cases_Bool (is_name name file.0))

pub no_file : (image : Image) → ¬ (IsSome image) → image ≡ None
no_file None off = refl
no_file (Some bytes) off = absurd (off refl)

-- the files are all those of the images
pub all_found : (images : List ℕ → Image) (files : List (List ℕ × List ℕ)) (names : List (List ℕ)) → keys_of files ≡ names → AreTold images files
    → ((name : List ℕ) → Contains names name ↔ IsSome (images name)) → (name : List ℕ) → images name ≡ value_at name files
all_found images files names keys told listed name = ⊎_elim
    (λ is. sym is)
    (λ absent. no_file (images name) (λ some. absent.1 (subst (λ l. Contains l name) (sym keys) ((listed name).1 some))) ∙ sym absent.0)
    (found images files name told)

-- a start makes the same of equal images
pub opened_same : (limits : Limits) (images other : List ℕ → Image) (opening : Opening) (pairs : List (List ℕ × List ℕ)) → ((name : List ℕ) → images name ≡ other name)
    → Opened limits images opening pairs → Opened limits other opening pairs
opened_same limits images other opening pairs same is = record {
  files = is.files;
  all = λ name. sym (same name) ∙ is.all name;
  starts = is.starts;
  aliases = subst (λ (i : Image). GivesAliases i pairs) (same aliases) is.aliases;
}
