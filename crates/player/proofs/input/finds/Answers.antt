-- `finds` meets its contract: each number in turn.
use Rattle.lists.specs.Kit.{refl}
use Rattle.player.specs.Reads.{failure}
use Rattle.player.proofs.ReadLaws.{error_is, error_other}
use Rattle.player.proofs.input.finds.Goals as goal

pub returns-then-error-eq-EINTR : goal.returns-then-error-eq-EINTR
unfolding failure
returns-then-error-eq-EINTR c = rw (error_is 4 c.args.error refl c.ranges.error c.if-error-eq-EINTR.true)

pub returns-then-error-eq-EISDIR : goal.returns-then-error-eq-EISDIR
unfolding failure
returns-then-error-eq-EISDIR c =
    rw (
      error_other 4 c.args.error c.if-error-eq-EINTR.false,
      error_is 21 c.args.error refl c.ranges.error c.if-error-eq-EISDIR.true,
    )

pub returns-then-error-eq-EAGAIN : goal.returns-then-error-eq-EAGAIN
unfolding failure
returns-then-error-eq-EAGAIN c =
    rw (
      error_other 4 c.args.error c.if-error-eq-EINTR.false,
      error_other 21 c.args.error c.if-error-eq-EISDIR.false,
      error_is 11 c.args.error refl c.ranges.error c.if-error-eq-EAGAIN.true,
    )

pub returns-then-error-eq-EBADF : goal.returns-then-error-eq-EBADF
unfolding failure
returns-then-error-eq-EBADF c =
    rw (
      error_other 4 c.args.error c.if-error-eq-EINTR.false,
      error_other 21 c.args.error c.if-error-eq-EISDIR.false,
      error_other 11 c.args.error c.if-error-eq-EAGAIN.false,
      error_is 9 c.args.error refl c.ranges.error c.if-error-eq-EBADF.true,
    )

pub returns-then-error-eq-EIO : goal.returns-then-error-eq-EIO
unfolding failure
returns-then-error-eq-EIO c =
    rw (
      error_other 4 c.args.error c.if-error-eq-EINTR.false,
      error_other 21 c.args.error c.if-error-eq-EISDIR.false,
      error_other 11 c.args.error c.if-error-eq-EAGAIN.false,
      error_other 9 c.args.error c.if-error-eq-EBADF.false,
      error_is 5 c.args.error refl c.ranges.error c.if-error-eq-EIO.true,
    )

pub returns : goal.returns
unfolding failure
returns c =
    rw (
      error_other 4 c.args.error c.if-error-eq-EINTR.false,
      error_other 21 c.args.error c.if-error-eq-EISDIR.false,
      error_other 11 c.args.error c.if-error-eq-EAGAIN.false,
      error_other 9 c.args.error c.if-error-eq-EBADF.false,
      error_other 5 c.args.error c.if-error-eq-EIO.false,
    )
