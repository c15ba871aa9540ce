use Rattle.std.proofs.Common.{◌≡◌, ◌++◌, ◌∷◌, [], ◌∙◌, List, ℕ, not, nat_eq, sym, subst, ap}
use Rattle.std.specs.List.{filter}
use Rattle.std.specs.Cmp.Lexicographic.{pointwise}
use Rattle.kr_memory_disk.specs.declared.files.MemoryFile.{MemoryFile}
use Rattle.kr_memory_disk.specs.Files.{image_in, HasDistinctNames}
use Rattle.kr_memory_disk.proofs.FileLemmas.{image_in_others, image_in_others-other, image_in-push, image_in-push_other, distinct_others, distinct_push}
use Rattle.kr_memory_disk.proofs.files.Files.set.Goals as goal

-- the files of other names, after room was made
abbrev others : List ℕ → List MemoryFile → List MemoryFile
others name files = filter (λ file. not (pointwise nat_eq file.name name)) files

-- the file of this name is removed, and one is added
pub invariant_of-self-in-Some : goal.invariant_of-self-in-Some
invariant_of-self-in-Some c =
    let left : c.take_out.new.files.items ≡ others c.args.name c.self.inside.files.items = c.take_out.ensures.others ∙ ap (λ (f : List MemoryFile). others c.args.name f) c.in_ok-reserve.ensures.items in
    subst HasDistinctNames (sym (c.add.ensures ∙ ap (λ (f : List MemoryFile). f ++ (record { name = c.args.name; bytes = c.in-Some.bytes }) ∷ []) left))
    (distinct_push c.args.name c.in-Some.bytes (others c.args.name c.self.inside.files.items) (image_in_others c.args.name c.self.inside.files.items) (distinct_others c.args.name c.self.inside.files.items c.self.invariant))

pub invariant_of-self-in-None : goal.invariant_of-self-in-None
invariant_of-self-in-None c =
    subst HasDistinctNames (sym (c.take_out.ensures.others ∙ ap (λ (f : List MemoryFile). others c.args.name f) c.in_ok-reserve.ensures.items))
    (distinct_others c.args.name c.self.inside.files.items c.self.invariant)

pub returns-in-Some-clause-set : goal.returns-in-Some-clause-set
returns-in-Some-clause-set c =
    let left : c.take_out.new.files.items ≡ others c.args.name c.self.inside.files.items = c.take_out.ensures.others ∙ ap (λ (f : List MemoryFile). others c.args.name f) c.in_ok-reserve.ensures.items in
    subst (λ f. image_in f c.args.name ≡ c.args.image) (sym (c.add.ensures ∙ ap (λ (f : List MemoryFile). f ++ (record { name = c.args.name; bytes = c.in-Some.bytes }) ∷ []) left))
    (image_in-push c.args.name c.in-Some.bytes (others c.args.name c.self.inside.files.items) (image_in_others c.args.name c.self.inside.files.items) ∙ sym c.in-Some.is)

pub returns-in-Some-clause-others : goal.returns-in-Some-clause-others
returns-in-Some-clause-others c other differs =
    let left : c.take_out.new.files.items ≡ others c.args.name c.self.inside.files.items = c.take_out.ensures.others ∙ ap (λ (f : List MemoryFile). others c.args.name f) c.in_ok-reserve.ensures.items in
    subst (λ f. image_in f other ≡ image_in c.args.self.now other) (sym (c.add.ensures ∙ ap (λ (f : List MemoryFile). f ++ (record { name = c.args.name; bytes = c.in-Some.bytes }) ∷ []) left))
    (image_in-push_other c.args.name c.in-Some.bytes other differs (others c.args.name c.self.inside.files.items) ∙ image_in_others-other c.args.name other differs c.self.inside.files.items ∙ ap (λ (f : List MemoryFile). image_in f other) c.self.view_is)

pub returns-in-None-clause-set : goal.returns-in-None-clause-set
returns-in-None-clause-set c =
    subst (λ f. image_in f c.args.name ≡ c.args.image) (sym (c.take_out.ensures.others ∙ ap (λ (f : List MemoryFile). others c.args.name f) c.in_ok-reserve.ensures.items))
    (image_in_others c.args.name c.self.inside.files.items ∙ sym c.in-None.is)

pub returns-in-None-clause-others : goal.returns-in-None-clause-others
returns-in-None-clause-others c other differs =
    subst (λ f. image_in f other ≡ image_in c.args.self.now other) (sym (c.take_out.ensures.others ∙ ap (λ (f : List MemoryFile). others c.args.name f) c.in_ok-reserve.ensures.items))
    (image_in_others-other c.args.name other differs c.self.inside.files.items ∙ ap (λ (f : List MemoryFile). image_in f other) c.self.view_is)
