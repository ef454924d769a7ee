-- The laws of lower crates on which the joint rule rests.
use Rattle.std.specs.Prelude.{◌≡◌, ◌≤◌, ℕ, List, length, Bool, true, false}
use Rattle.class_pool.specs.Laws.{StoringAddsOne, MakingAddsOne, FreeingTakesOne, ChangingSwapsOne, UseIsPart, MovingKeepsAll}
use Rattle.class_pool.specs.Endings.{SomeMayMove, FewerMayMove, NoneMayMove, RestIsLeast, TightHasNoPlan}
use Rattle.lock_row.specs.Laws.{TakingKeepsTotal, GivingMovesTotal, SumMoves, IsPartOfSum}
use Rattle.call_history.specs.Laws.{KeepsItsPage, KeepsOtherPages, GoesOn, NamesItsOp, CountsGrow}
use Rattle.bdi_page.specs.Packing.{IsPage}
use Rattle.slot_entry.specs.declared.limits.TheConstants.{MOST_PACKED}
use Rattle.slot_entry.specs.Forms.{Word, Pooled, form_of, filled_page, page_kept_as}
use Rattle.page_steps.specs.Steps.{DiskHeld}

-- What lower crates prove.
pub record Facts : Type 0 where
  pub take : TakingKeepsTotal DiskHeld
  pub give : GivingMovesTotal DiskHeld
  pub moves : SumMoves DiskHeld
  pub part : IsPartOfSum DiskHeld
  pub here : KeepsItsPage
  pub elsewhere : KeepsOtherPages
  pub follows : GoesOn
  pub named : NamesItsOp
  pub counted : CountsGrow
  pub stored : StoringAddsOne
  pub made : MakingAddsOne
  pub freed : FreeingTakesOne
  pub changed : ChangingSwapsOne
  pub among : UseIsPart
  pub moved : MovingKeepsAll
  pub some_may : SomeMayMove
  pub fewer_may : FewerMayMove
  pub none_may : NoneMayMove
  pub rest_least : RestIsLeast
  pub tight_rests : TightHasNoPlan
  -- the page that is kept as some bytes is the one
  pub kept_as : (page bytes : List ℕ) (huge : Bool) → IsPage page
      → form_of page ≡ Pooled bytes huge → page_kept_as bytes huge ≡ page
  -- that of a packed page is short, and that of a huge one is the page itself
  pub packed_short : (page bytes : List ℕ) → IsPage page → form_of page ≡ Pooled bytes false
      → length bytes ≤ MOST_PACKED
  pub huge_page : (page bytes : List ℕ) → IsPage page → form_of page ≡ Pooled bytes true
      → bytes ≡ page
  -- a page that is kept as a word has that word
  pub word_page : (page : List ℕ) (w : ℕ) → IsPage page → form_of page ≡ Word w
      → filled_page w ≡ page
