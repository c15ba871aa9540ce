use Rattle.std.proofs.Common.{IsTrue, subst, sym, ◌∙◌}
use Rattle.folder_store.proofs.WalkLemmas.{listed_settled, Stays-again}
use Rattle.folder_store.proofs.loading.settled_names.Goals as goal

pub returns-in_ok-in_order-in-Ok-clause-listed : goal.returns-in_ok-in_order-in-Ok-clause-listed
returns-in_ok-in_order-in-Ok-clause-listed g c honest name =
    let as_new : IsTrue (g.F.Folder.is_honest c.sync.new.self) = subst (λ b. IsTrue b) (sym c.sync.ensures.kept.honest) honest in
    listed_settled _ _ (g.F.Folder.images c.names.new.self) _ _ (c.sync.ensures.made ∙ c.requires.fresh)
    (c.in-Ok.ensures.listed as_new) (c.names.ensures.stays as_new).same c.in_ok-in_order-in-Ok.ensures.same name

pub returns-in_ok-in_order-in-Ok-clause-others : goal.returns-in_ok-in_order-in-Ok-clause-others
returns-in_ok-in_order-in-Ok-clause-others g c is =
    let folder = g.F.Folder in
    Stays-again folder.images folder.may_leave (folder.made c.args.folder.now) (folder.made c.sync.new.self) c.args.folder.now c.sync.new.self c.names.new.self c.sync.ensures.made
    (c.sync.ensures.stays is) (c.names.ensures.stays (subst (λ b. IsTrue b) (sym c.sync.ensures.kept.honest) is))

pub returns-in_err-in_order-in-Ok-clause-others : goal.returns-in_err-in_order-in-Ok-clause-others
returns-in_err-in_order-in-Ok-clause-others g c is =
    let folder = g.F.Folder in
    Stays-again folder.images folder.may_leave (folder.made c.args.folder.now) (folder.made c.sync.new.self) c.args.folder.now c.sync.new.self c.names.new.self c.sync.ensures.made
    (c.sync.ensures.stays is) (c.names.ensures.stays (subst (λ b. IsTrue b) (sym c.sync.ensures.kept.honest) is))

pub returns-in-Err-Failed-clause-others : goal.returns-in-Err-Failed-clause-others
returns-in-Err-Failed-clause-others g c is =
    let folder = g.F.Folder in
    Stays-again folder.images folder.may_leave (folder.made c.args.folder.now) (folder.made c.sync.new.self) c.args.folder.now c.sync.new.self c.names.new.self c.sync.ensures.made
    (c.sync.ensures.stays is) (c.names.ensures.stays (subst (λ b. IsTrue b) (sym c.sync.ensures.kept.honest) is))

pub returns-in-Err-OutOfMemory-clause-others : goal.returns-in-Err-OutOfMemory-clause-others
returns-in-Err-OutOfMemory-clause-others g c is =
    let folder = g.F.Folder in
    Stays-again folder.images folder.may_leave (folder.made c.args.folder.now) (folder.made c.sync.new.self) c.args.folder.now c.sync.new.self c.names.new.self c.sync.ensures.made
    (c.sync.ensures.stays is) (c.names.ensures.stays (subst (λ b. IsTrue b) (sym c.sync.ensures.kept.honest) is))
