use Rattle.std.proofs.Common.{Some, None}
use Rattle.kr_names.specs.Path.{sessions, prompts, IsPathOf}
use Rattle.kr_names.specs.declared.object_name.ObjectName.{ObjectName}
use Rattle.kr_names.specs.declared.object_name.ObjectName.TheVariants.{Collection, Item, Alias, Session, Prompt}
use Rattle.kr_names.proofs.NameLemmas.{no_name, session_read, prompt_read}
use Rattle.kr_names.proofs.NamingLemmas.{reads_name}
use Rattle.kr_names.proofs.path.parse_path.Goals as goal

pub returns-in-Some-clause-named : goal.returns-in-Some-clause-named
returns-in-Some-clause-named c = reads_name c.args.path.now (Some c.in-Some.name) c.in-Some.ensures

pub returns-in-Some-numbered-clause-read : goal.returns-in-Some-numbered-clause-read
unfolding sessions
returns-in-Some-numbered-clause-read c = session_read c.args.path.now c.in-Some-numbered.number c.in-Some-numbered.ensures

pub returns-in-Some-numbered-clause-named : goal.returns-in-Some-numbered-clause-named
unfolding sessions
returns-in-Some-numbered-clause-named c =
    reads_name c.args.path.now (Some (Session (record { 0 = c.in-Some-numbered.number }))) (session_read c.args.path.now c.in-Some-numbered.number c.in-Some-numbered.ensures)

pub returns-in-Some-numbered-2-clause-read : goal.returns-in-Some-numbered-2-clause-read
unfolding prompts
returns-in-Some-numbered-2-clause-read c = prompt_read c.args.path.now c.in-Some-numbered-2.number c.in-Some-numbered-2.ensures

pub returns-in-Some-numbered-2-clause-named : goal.returns-in-Some-numbered-2-clause-named
unfolding prompts
returns-in-Some-numbered-2-clause-named c =
    reads_name c.args.path.now (Some (Prompt (record { 0 = c.in-Some-numbered-2.number }))) (prompt_read c.args.path.now c.in-Some-numbered-2.number c.in-Some-numbered-2.ensures)

pub returns-in-Some-2-clause-named : goal.returns-in-Some-2-clause-named
returns-in-Some-2-clause-named c =
    reads_name c.args.path.now (Some (Alias c.in-Some-2.alias)) (rw c.in-Some-2.is at c.in_ok-alias.ensures)

pub returns-in-Some-3-clause-named : goal.returns-in-Some-3-clause-named
returns-in-Some-3-clause-named c =
    reads_name c.args.path.now (Some (Item c.in-Some-3.stem c.in-Some-3.item)) (rw c.in-Some-3.is at c.in_ok-stem.ensures)

pub returns-in-Some-4-clause-named : goal.returns-in-Some-4-clause-named
returns-in-Some-4-clause-named c =
    reads_name c.args.path.now (Some (Collection c.in-Some-4.stem)) (rw c.in-Some-4.is at c.in_ok-stem-2.ensures)

-- none of the forms
none : (c : goal.In-None) → (name : ObjectName) → IsPathOf name c.args.path.now → ⊥
unfolding sessions prompts
none c = no_name c.args.path.now (record {
  no_whole = c.in_default.ensures;
  no_session = c.in_default-numbered.ensures;
  no_prompt = c.in_default-numbered-2.ensures;
  no_alias = rw c.in_default-2.is at c.in_ok-alias.ensures;
  no_item = rw c.in_default-3.is at c.in_ok-stem.ensures;
  no_collection = rw c.in-None.is at c.in_ok-stem-2.ensures;
})

pub returns-in-None-clause-read : goal.returns-in-None-clause-read
returns-in-None-clause-read c = none c

pub returns-in-None-clause-named : goal.returns-in-None-clause-named
returns-in-None-clause-named c = reads_name c.args.path.now None (none c)
