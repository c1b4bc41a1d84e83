-- Jobs as lists and numbers.
use Rattle.std.specs.Coded.{Coded, codes}
use Rattle.priml_syntax.specs.contracts.ty.Ty as ty
use Rattle.priml_syntax.specs.contracts.expr.Expr as expr
use Rattle.priml_syntax.specs.contracts.block.Block as block
use Rattle.type_rules.specs.Jobs.{WithInputs}

pub job_code : Coded WithInputs
job_code = Prim.hlevel (codes, ty.the_row.coded, expr.the_row.coded, block.the_row.coded)
