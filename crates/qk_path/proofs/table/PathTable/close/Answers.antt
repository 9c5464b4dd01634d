use Rattle.std.proofs.Common.{rules, arith, ◌≡◌, ◌+◌, ◌*◌, ◌<◌, ℕ, List, length, get_or, sym, ◌∙◌, subst, ap}
use Rattle.qk_path.specs.Paths.{IsPrefix, AllPrefixes}
use Rattle.qk_path.specs.Points.{Leads}
use Rattle.qk_path.specs.Views.{draws_of, full_of}
use Rattle.qk_totals.specs.Totals.{total}
use Rattle.qk_path.specs.Walkers.{view_of}
use Rattle.qk_path.proofs.Walking.{done_where}
use Rattle.qk_path.proofs.Paths.{prefix_self}
use Rattle.qk_path.proofs.Closing.{has_path, final_draws, final_leads, final_taken, final_short}
use Rattle.qk_path.proofs.table.PathTable.close.Goals as goal

pub returns-clause-prefixes : goal.returns-clause-prefixes
returns-clause-prefixes g c =
    let f = c.close_with-shut.ensures.values.2 in let k = c.args.self.table.shared.key in let v = c.gather-seat.result.seat.me.0 in
    let told = c.gather-seat.ensures in
    let taken = final_taken g.F.Family.children g.F.Family.failing k.family.now k.root.now k.walkers k.limit f.0.words f.0.views f.1.0.0 f.1.0.1 c.gather-seat.result.seat.id v f.1.1 (told.parts ∙ c.requires.all) in
    told.prefixes c.gather-seat.result.path.items (subst (IsPrefix v.path) (sym told.table.1) (prefix_self v.path)) (subst (AllPrefixes v.absorbed) (sym told.table.1) taken)

pub returns-clause-leads : goal.returns-clause-leads
returns-clause-leads g c =
    let f = c.close_with-shut.ensures.values.2 in let k = c.args.self.table.shared.key in let v = c.gather-seat.result.seat.me.0 in
    let told = c.gather-seat.ensures in let s = c.args.self.started in
    let leads = final_leads g.F.Family.children g.F.Family.failing k.family.now k.root.now k.walkers k.limit f.0.words f.0.views f.1.0.0 f.1.0.1 c.gather-seat.result.seat.id v f.1.1 (told.parts ∙ c.requires.all) in
    let at_family = subst (λ x. Leads (g.F.Family.children x) (g.F.Family.failing x) k.root.now v.path) s.0 leads in
    let at_root = subst (λ x. Leads (g.F.Family.children c.args.self.family.now) (g.F.Family.failing c.args.self.family.now) x v.path) s.1 at_family in
    subst (Leads (g.F.Family.children c.args.self.family.now) (g.F.Family.failing c.args.self.family.now) c.args.self.root.now) (sym told.table.1) at_root

pub returns-clause-limit : goal.returns-clause-limit
returns-clause-limit g c =
    let f = c.close_with-shut.ensures.values.2 in let k = c.args.self.table.shared.key in let v = c.gather-seat.result.seat.me.0 in
    let told = c.gather-seat.ensures in let s = c.args.self.started in
    let short = final_short g.F.Family.children g.F.Family.failing k.family.now k.root.now k.walkers k.limit f.0.words f.0.views f.1.0.0 f.1.0.1 c.gather-seat.result.seat.id v f.1.1 (told.parts ∙ c.requires.all) in
    let same = ap length told.table.1 in
    let is : c.len.result ≡ length c.gather-seat.result.path.items = c.len.ensures in
    let limit = s.2 in
    (omega arith, ((λ h. search rules), (λ h. search rules)))

pub returns-clause-draws : goal.returns-clause-draws
returns-clause-draws g c =
    let f = c.close_with-shut.ensures.values.2 in let k = c.args.self.table.shared.key in let v = c.gather-seat.result.seat.me.0 in
    let told = c.gather-seat.ensures in
    let D : ℕ → ℕ → ℕ = λ e x. total (λ w. draws_of e x (view_of w)) c.args.walkers.items in
    let claims : ℕ → ℕ = λ e. get_or f.0.words (2 * e + 2) 0 in
    (claims, final_draws g.F.Family.children g.F.Family.failing k.family.now k.root.now k.walkers k.limit f.0.words f.0.views f.1.0.0 f.1.0.1 c.gather-seat.result.seat.id v f.1.1 (told.parts ∙ c.requires.all) D told.draws)

pub returns-clause-levels : goal.returns-clause-levels
returns-clause-levels g c = λ k d h. (get_or c.args.walkers.items k d).tidy

pub returns-clause-done : goal.returns-clause-done
returns-clause-done g c = λ k d h. let w = get_or c.args.walkers.items k d in
    done_where g.F.Family.children (view_of w) c.args.self.family.now c.args.self.root.now (c.requires.walkers k d h).1 w.tidy w.ended

pub returns-clause-whole : goal.returns-clause-whole
returns-clause-whole g c = let told = c.gather-seat.ensures in
    has_path c.gather-seat.result.path.items c.args.walkers.items (returns-clause-prefixes g c)
    (subst (λ (l : List ℕ). 0 < total (λ w. full_of (length l) (view_of w)) c.args.walkers.items) (sym told.table.1) told.whole)
