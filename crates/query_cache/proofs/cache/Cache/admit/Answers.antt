use Rattle.std.proofs.Common.{◌∙◌, sym, ap, subst, true, is_none, arith}
use Rattle.std.specs.Option.{is_some}
use Rattle.std.specs.Map.{lookup}
use Rattle.query_cache.specs.Texts.{Held, is_held, Admits}
use Rattle.query_cache.specs.Kept.{is_text}
use Rattle.query_cache.proofs.Lists.{view_of, held_entry, admits_promoted, admits_kept, cache_stays, cache_kept, stays, not_held, long_not_held, within, on_err}
use Rattle.query_cache.proofs.cache.Cache.admit.Goals as goal

pub returns-then-text-gt-QUERY_LIMIT-clause-unheld : goal.returns-then-text-gt-QUERY_LIMIT-clause-unheld
returns-then-text-gt-QUERY_LIMIT-clause-unheld c =
    sym (ap (λ (h : Held). is_held c.args.text.now h.texts) c.self.view_is)
    ∙ long_not_held c.args.text.now c.self.inside.queries.entries c.self.inside.queries.cap c.self.invariant (omega (arith, c.if-text-gt-QUERY_LIMIT.true))

pub invariant_of-self-then-bring_forward : goal.invariant_of-self-then-bring_forward
invariant_of-self-then-bring_forward c = cache_stays c.args.text.now c.self.inside.queries c.bring_forward.new.queries c.self.invariant c.bring_forward.ensures.order

pub returns-then-bring_forward-clause-list : goal.returns-then-bring_forward-clause-list
returns-then-bring_forward-clause-list c =
    subst (λ h. Admits c.args.text.now true h (view_of c.bring_forward.new.queries)) c.self.view_is
    (admits_promoted c.args.text.now c.self.inside.queries c.bring_forward.new.queries (sym c.bring_forward.ensures.held ∙ c.if-bring_forward.true) c.bring_forward.ensures.order)

pub returns-then-bring_forward-clause-few : goal.returns-then-bring_forward-clause-few
returns-then-bring_forward-clause-few c =
    within c.bring_forward.new.queries.entries c.bring_forward.new.queries.cap (cache_stays c.args.text.now c.self.inside.queries c.bring_forward.new.queries c.self.invariant c.bring_forward.ensures.order)

pub invariant_of-self-in_err-query : goal.invariant_of-self-in_err-query
invariant_of-self-in_err-query c = cache_stays c.args.text.now c.self.inside.queries c.bring_forward.new.queries c.self.invariant c.bring_forward.ensures.order

pub returns-in_err-query-clause-few : goal.returns-in_err-query-clause-few
returns-in_err-query-clause-few c =
    within c.bring_forward.new.queries.entries c.bring_forward.new.queries.cap (cache_stays c.args.text.now c.self.inside.queries c.bring_forward.new.queries c.self.invariant c.bring_forward.ensures.order)

pub returns-in_err-query-clause-unheld : goal.returns-in_err-query-clause-unheld
returns-in_err-query-clause-unheld c =
    on_err c.from_residual.result _
    (sym (ap (λ (h : Held). is_held c.args.text.now h.texts) c.self.view_is) ∙ sym (held_entry c.args.text.now c.self.inside.queries.entries) ∙ sym c.bring_forward.ensures.held ∙ c.if-bring_forward.false)

pub returns-in_err-query-clause-unchanged : goal.returns-in_err-query-clause-unchanged
returns-in_err-query-clause-unchanged c =
    on_err c.from_residual.result _ (ap view_of (stays c.args.text.now c.self.inside.queries c.bring_forward.new.queries (sym c.bring_forward.ensures.held ∙ c.if-bring_forward.false) c.bring_forward.ensures.order) ∙ c.self.view_is)

pub keep_parsed-requires : goal.keep_parsed-requires
keep_parsed-requires c =
    let none = sym c.bring_forward.ensures.held ∙ c.if-bring_forward.false in
    let s = stays c.args.text.now c.self.inside.queries c.bring_forward.new.queries none c.bring_forward.ensures.order in
    ap (λ l. lookup (is_text c.args.text.now) l.entries) s ∙ not_held c.args.text.now c.self.inside.queries.entries none

pub invariant_of-self-2 : goal.invariant_of-self-2
invariant_of-self-2 c =
    cache_kept c.args.text.now c.in_ok-query.query c.bring_forward.new.queries c.keep_parsed.new.queries c.keep_parsed.result c.in_ok-query.ensures.valid
    (cache_stays c.args.text.now c.self.inside.queries c.bring_forward.new.queries c.self.invariant c.bring_forward.ensures.order) c.keep_parsed.ensures

pub returns-clause-list : goal.returns-clause-list
returns-clause-list c =
    let none = sym c.bring_forward.ensures.held ∙ c.if-bring_forward.false in
    let s = stays c.args.text.now c.self.inside.queries c.bring_forward.new.queries none c.bring_forward.ensures.order in
    subst (λ h. Admits c.args.text.now (is_none c.keep_parsed.result) h (view_of c.keep_parsed.new.queries)) (ap view_of s ∙ c.self.view_is)
    (admits_kept c.args.text.now c.in_ok-query.query c.bring_forward.new.queries c.keep_parsed.new.queries c.keep_parsed.result (ap (λ l. is_some (lookup (is_text c.args.text.now) l.entries)) s ∙ none) c.keep_parsed.ensures)

pub returns-clause-few : goal.returns-clause-few
returns-clause-few c =
    within c.keep_parsed.new.queries.entries c.keep_parsed.new.queries.cap
    (cache_kept c.args.text.now c.in_ok-query.query c.bring_forward.new.queries c.keep_parsed.new.queries c.keep_parsed.result c.in_ok-query.ensures.valid
    (cache_stays c.args.text.now c.self.inside.queries c.bring_forward.new.queries c.self.invariant c.bring_forward.ensures.order) c.keep_parsed.ensures)
