use borrow.Author.Rules.{rules}
use Rattle.stock.proofs.Changes.{can_join, stayed, joined, left, emptied, started}
use Rattle.stock.proofs.steps.figures_after.Goals as goal

pub enum_told-1 : goal.enum_told-1
enum_told-1 c = search rules

pub enum_known-change : goal.enum_known-change
enum_known-change c = search rules

pub joined-requires : goal.joined-requires
joined-requires c = search can_join

pub enum_known-change-in-Leave-1 : goal.enum_known-change-in-Leave-1
enum_known-change-in-Leave-1 c = search rules

pub rest-requires : goal.rest-requires
rest-requires c = search rules

pub enum_told-in-Empty : goal.enum_told-in-Empty
enum_told-in-Empty c = search rules

pub enum_known-change-in-Start-1 : goal.enum_known-change-in-Start-1
enum_known-change-in-Start-1 c = search rules

pub overflow_cast-result : goal.overflow_cast-result
overflow_cast-result c = search rules

pub returns-in-Stay : goal.returns-in-Stay
returns-in-Stay c = search stayed

pub returns-in-Join : goal.returns-in-Join
returns-in-Join c = search joined

pub returns-in-Leave : goal.returns-in-Leave
returns-in-Leave c = search left

pub returns-in-Empty : goal.returns-in-Empty
returns-in-Empty c = emptied _ _ _ c.args.w.held _ _ c.in-Empty.is c.default.ensures.0 c.default.ensures.1.0 c.default.ensures.1.1

pub returns-in-Start : goal.returns-in-Start
returns-in-Start c = search started
