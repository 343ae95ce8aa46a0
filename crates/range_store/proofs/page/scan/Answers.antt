use Rattle.std.proofs.Common.{sym, ◌∙◌}
use Rattle.range_store.proofs.StoreLaws.{open_range, ended_range, scanned_entries, page_made, forward}
use Rattle.range_store.proofs.page.scan.Goals as goal

pub page-requires : goal.page-requires
page-requires c =
    scanned_entries c.args.from.now c.args.to.now c.args.entries.now.entries c.range.result c.requires.table
    (open_range c.args.from.now c.args.to.now c.in_ok-first.first c.args.entries.now.entries c.range.result c.in_ok-first.ensures.items (sym c.is_empty.ensures ∙ c.if-is_empty.true) (c.range.ensures.between tt))

pub returns-then-is_empty : goal.returns-then-is_empty
returns-then-is_empty c =
    page_made c.page.result _ _
    (open_range c.args.from.now c.args.to.now c.in_ok-first.first c.args.entries.now.entries c.range.result c.in_ok-first.ensures.items (sym c.is_empty.ensures ∙ c.if-is_empty.true) (c.range.ensures.between tt)) c.page.ensures

pub page-requires-2 : goal.page-requires-2
page-requires-2 c =
    scanned_entries c.args.from.now c.args.to.now c.args.entries.now.entries c.range-2.result c.requires.table
    (ended_range c.args.from.now c.args.to.now c.in_ok-first.first c.in_ok-last.last c.args.entries.now.entries c.range-2.result c.in_ok-first.ensures.items c.in_ok-last.ensures.items (sym c.is_empty.ensures ∙ c.if-is_empty.false)
    (c.range-2.ensures.between tt))

pub returns : goal.returns
returns c =
    page_made c.page-2.result _ _
    (ended_range c.args.from.now c.args.to.now c.in_ok-first.first c.in_ok-last.last c.args.entries.now.entries c.range-2.result c.in_ok-first.ensures.items c.in_ok-last.ensures.items (sym c.is_empty.ensures ∙ c.if-is_empty.false)
    (c.range-2.ensures.between tt)) c.page-2.ensures

pub range-requires-2 : goal.range-requires-2
range-requires-2 c =
    forward c.args.from.now c.args.to.now c.in_ok-first.first.items c.in_ok-last.last.items c.in_ok-first.ensures.items c.in_ok-last.ensures.items c.requires.range (sym c.is_empty.ensures ∙ c.if-is_empty.false)
