-- What holds of every text.
use Rattle.std.specs.Prelude.{◌≡◌, ◌≢◌, ℕ, List}
use Rattle.priml_syntax.specs.Tree.{Tree}
use Rattle.priml_syntax.specs.Scoped.{IsScoped}
use Rattle.source_reader.specs.declared.reader.SourceFault.{SourceFault}
use Rattle.source_reader.specs.declared.reader.SourceFault.TheVariants.{OutOfMemory}
use Rattle.source_reader.specs.Stands.{Stands, IsFaultOf}

-- the text stands for a program, or has a fault
pub data IsDecided (text : List ℕ) : Type 0 where
  stands : (p : Tree) → Stands text p → IsDecided text
  faulty : (f : SourceFault) → IsFaultOf text f → IsDecided text

-- a text stands for just one program, or has just one fault, and never both; want of memory is no fault of a text
pub record SourceLaws (text : List ℕ) : Type 0 where
  pub decided : IsDecided text
  pub one_program : (p q : Tree) → Stands text p → Stands text q → p ≡ q
  pub one_fault : (f g : SourceFault) → IsFaultOf text f → IsFaultOf text g → f ≡ g
  pub not_both : (p : Tree) (f : SourceFault) → Stands text p → IsFaultOf text f → ⊥
  pub in_text : (f : SourceFault) → IsFaultOf text f → f ≢ OutOfMemory
  pub scoped : (p : Tree) → Stands text p → IsScoped p
