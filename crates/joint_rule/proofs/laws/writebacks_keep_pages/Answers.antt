use Rattle.joint_rule.proofs.Marked.{has_other, has_page, keeps_page}
use Rattle.joint_rule.specs.Begins.{finding}
use Rattle.joint_rule.proofs.laws.writebacks_keep_pages.Goals as goal

pub returns-clause-commit : goal.returns-clause-commit
returns-clause-commit c g w a l s x page r who at won copied =
    keeps_page (finding g r.finds) w r.ruled.joint a l who s x at won page copied

pub returns-clause-block : goal.returns-clause-block
returns-clause-block c g w a l s x b page r who at won block copied =
    has_page (finding g r.finds) w r.ruled.joint a l who s x at won page copied b block

pub returns-clause-lost : goal.returns-clause-lost
returns-clause-lost c g w a l x r who at well =
    has_other (finding g r.finds) w r.ruled.joint a l who x at well
