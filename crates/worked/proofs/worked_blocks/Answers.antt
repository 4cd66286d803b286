use Rattle.std.proofs.Common.{refl}
use Rattle.std.specs.List.{AllByRecursion}
use Rattle.worked.specs.Examples.{examples, Holds}
use Rattle.worked.proofs.Verdicts.{broad_verdict, full_verdict, and_verdict, low_verdict, one_mask_leaks, unregistered_leaks}
use Rattle.worked.proofs.worked_blocks.Goals as goal

worked : AllByRecursion Holds examples
worked = (
  refl,
  (
    refl,
    (
      refl,
      (
        refl,
        (
          refl,
          (
            refl,
            (
              broad_verdict,
              (
                full_verdict,
                (
                  and_verdict,
                  (
                    refl,
                    (
                      refl,
                      (
                        refl,
                        (
                          refl,
                          (
                            low_verdict,
                            (
                              (refl, refl),
                              (
                                refl,
                                (one_mask_leaks, (unregistered_leaks, tt)),
                              ),
                            ),
                          ),
                        ),
                      ),
                    ),
                  ),
                ),
              ),
            ),
          ),
        ),
      ),
    ),
  ),
)

pub returns : goal.returns
returns c = record { number = refl; hold = worked }
