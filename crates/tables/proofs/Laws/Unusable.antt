-- Numbers 1 and 2 by the tests that decide them.
--     unusable-short, unusable-ill, usable       the refusal that comes first
--     none_lent, none-formed                    and back: what it says that there is none
use mathlib.Core.Path.{◌≡◌, refl}
use mathlib.Core.Bool.{Bool, true, false}
use mathlib.Core.Option.{none, some}
use Rattle.dqbf.specs.Refusal.{refusal, first}
use Rattle.tables.specs.declared.State.{State}
use Rattle.tables.specs.Tables.{Tables}
use Rattle.tables.specs.WellFormed.{long, well_formed}
use Rattle.tables.specs.Unusable.{table_tests, unusable}

module _ (t : Tables) (s : State) where
  pub unusable-short : long t ≡ false → unusable t s ≡ some (refusal 1)
  unfolding unusable table_tests first
  unusable-short e = rw e

  pub unusable-ill : long t ≡ true → well_formed t s ≡ false → unusable t s ≡ some (refusal 2)
  unfolding unusable table_tests first
  unusable-ill e f = rw (e, f)

  pub usable : long t ≡ true → well_formed t s ≡ true → unusable t s ≡ none
  unfolding unusable table_tests first
  usable e f = rw (e, f)

  -- and back: what it says that no refusal comes first
  module _ (q : unusable t s ≡ none) where
    pub none_lent : long t ≡ true
    none_lent = go (long t) refl
      where
        go : (a : Bool) → long t ≡ a → long t ≡ true
        go true e = e
        go false e = absurd (cc (unusable-short e))

    pub none-formed : well_formed t s ≡ true
    none-formed = go (well_formed t s) refl
      where
        go : (b : Bool) → well_formed t s ≡ b → well_formed t s ≡ true
        go true f = f
        go false f = absurd (cc (unusable-ill none_lent f))
