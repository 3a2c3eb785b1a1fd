use Rattle.std.proofs.Common.{◌≡◌, [], ◌++◌, None, false, true, ap, ◌∙◌, refl}
use Rattle.wire_frames.specs.Readings.{asked_of}
use Rattle.wire_frames.specs.Replies.{reply}
use Rattle.path_hub.specs.UnderWay.{Clears}
use Rattle.path_hub.proofs.UnderWay.{changed_on_way, clears_still, goes_on, kept_on_way, may_want, replied, resumed, works}
use Rattle.path_hub.proofs.Spending.{replied_spends, works_spends}
use Rattle.path_hub.proofs.sharing.share_request.Goals as goal
use Rattle.path_hub.proofs.sharing.share_request.Goals.{After-write_small}

pub answer-requires-clause-going : goal.answer-requires-clause-going
answer-requires-clause-going c =
    resumed c.args.tenants.now c.tenant_mut-map.result.now c.args.work.conn c.args.request.now c.args.tasks.now c.take.result c.task_for-task.result c.requires.on_way c.tenant_mut-map.ensures.value c.take.ensures.was c.task_for-task.ensures.its
    c.task_for-task.ensures.only

pub returns-in-Ok-clause-shares : goal.returns-in-Ok-clause-shares
returns-in-Ok-clause-shares c = λ body p.
    replied c.places_are_served.ensures c.in-Ok.charge c.args.work.conn c.args.tenants.now _ body c.args.request.now c.tenant_mut-map.result.now c.answer.new.map c.args.tasks.now c.take.new.self c.args.out.now.items c.answer.new.out.items p c.tenant_mut-map.ensures.value refl
    c.in-Ok.ensures.answers.0 c.in-Ok.ensures.answers.1 c.take.ensures.clears

pub returns-in-Ok-clause-on_way : goal.returns-in-Ok-clause-on_way
returns-in-Ok-clause-on_way c = changed_on_way c.args.tenants.now _ c.args.work.conn c.args.request.now.place c.answer.new.map c.args.tasks.now c.take.new.self c.requires.on_way c.requires.free c.take.ensures.clears.query refl

pub returns-in-Ok-keep_query-clause-shares : goal.returns-in-Ok-keep_query-clause-shares
returns-in-Ok-keep_query-clause-shares c =
    let a = c.in-Err.ensures.answers in
    let u = a.2 in
    λ body p.
    works c.args.work.conn c.args.tenants.now _ body c.args.request.now c.tenant_mut-map.result.now c.answer.new.map u.0 u.1 c.args.tasks.now c.keep_query.new.self c.args.out.now.items c.answer.new.out.items p c.tenant_mut-map.ensures.value refl a.0 a.1 u.2
    (goes_on c.args.work.conn c.args.request.now c.args.tasks.now c.take.new.self c.keep_query.new.self u.0 u.1 c.take.result c.task_for-task.result c.in-Err.task c.take.ensures.clears c.keep_query.ensures.same c.take.ensures.was c.task_for-task.ensures.same c.in-Err.ensures.less u.2
    c.in-Ok-keep_query.ensures.ok)

pub returns-in-Ok-keep_query-clause-on_way : goal.returns-in-Ok-keep_query-clause-on_way
returns-in-Ok-keep_query-clause-on_way c =
    let a = c.in-Err.ensures.answers in
    kept_on_way c.args.tenants.now _ c.tenant_mut-map.result.now c.answer.new.map c.args.work.conn c.args.request.now c.args.tasks.now c.take.new.self c.keep_query.new.self c.in-Err.task c.requires.on_way c.tenant_mut-map.ensures.value refl a.0 c.take.ensures.clears.query a.2
    c.in-Ok-keep_query.ensures.ok

pub returns-in-Ok-keep_query-clause-whole : goal.returns-in-Ok-keep_query-clause-whole
returns-in-Ok-keep_query-clause-whole c = λ b e. let no : false ≡ true = c.in-Err.ensures.whole (c.task_for-task.ensures.only (c.take.ensures.was ∙ e)) b in absurd cc

stays_clear : (c : After-write_small) → Clears c.args.work.conn c.args.tasks.now c.keep_query.new.self
stays_clear c = clears_still c.args.work.conn c.args.tasks.now c.take.new.self c.keep_query.new.self c.take.ensures.clears c.in-Err-keep_query.ensures.err c.keep_query.ensures.same

pub returns-in-Err-keep_query-clause-shares : goal.returns-in-Err-keep_query-clause-shares
returns-in-Err-keep_query-clause-shares c =
    let a = c.in-Err.ensures.answers in
    λ body p.
    replied c.places_are_served.ensures None c.args.work.conn c.args.tenants.now _ body c.args.request.now c.tenant_mut-map.result.now c.answer.new.map c.args.tasks.now c.keep_query.new.self c.args.out.now.items c.write_small.new.out.items p c.tenant_mut-map.ensures.value refl
    (c.places_are_served.ensures.refused c.tenant_mut-map.result.now c.answer.new.map (asked_of c.args.request.now.command) c.args.request.now.number c.args.out.now.items _ (c.write_small.ensures ∙ ap (λ x. x ++ reply 21 c.args.request.now.number []) a.1) a.0
    (may_want c.places_are_served.ensures (asked_of c.args.request.now.command) c.args.request.now.number c.tenant_mut-map.result.now c.in-Err.task.value a.2)) tt (stays_clear c)

pub returns-in-Err-keep_query-clause-on_way : goal.returns-in-Err-keep_query-clause-on_way
returns-in-Err-keep_query-clause-on_way c =
    changed_on_way c.args.tenants.now _ c.args.work.conn c.args.request.now.place c.answer.new.map c.args.tasks.now c.keep_query.new.self c.requires.on_way c.requires.free
    (stays_clear c).query refl

pub returns-in-Ok-clause-little : goal.returns-in-Ok-clause-little
returns-in-Ok-clause-little c = λ body p.
    replied_spends c.in-Ok.charge c.args.work.conn c.args.tenants.now body c.args.request.now c.tenant_mut-map.result.now c.args.tasks.now c.take.new.self c.args.work.units c.take.result c.task_for-task.result p c.tenant_mut-map.ensures.value
    c.take.ensures.was c.task_for-task.ensures.same c.task_for-task.ensures.only c.in-Ok.ensures.little

pub returns-in-Ok-keep_query-clause-little : goal.returns-in-Ok-keep_query-clause-little
returns-in-Ok-keep_query-clause-little c = λ body p.
    works_spends c.args.work.conn c.args.tenants.now body c.args.request.now c.tenant_mut-map.result.now c.args.tasks.now c.take.new.self c.keep_query.new.self c.args.work.units c.take.result c.task_for-task.result c.in-Err.task p c.tenant_mut-map.ensures.value
    c.take.ensures.was c.task_for-task.ensures.same c.task_for-task.ensures.only c.in-Err.ensures.little c.in-Ok-keep_query.ensures.ok
