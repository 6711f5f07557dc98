-- `source::is_image` meets its contract: an image that is not formed is none, and else its site decides.
use Rattle.lists.specs.{Facts.{Bytes}}
use Rattle.image_reader.proofs.{SiteLaws.{site_room, not_formed, image_decided}}
use Rattle.image_reader.proofs.source.is_image.Goals as goal

pub returns-then-not-is_formed : goal.returns-then-not-is_formed
returns-then-not-is_formed c =
    let bytes : Bytes c.args.image.now = λ j l. (c.type_inv.image j).fits in
    not_formed _ _ c.requires.most _ c.is_formed.ensures bytes c.requires.checked _ _ (c.if-not-is_formed.true)

pub is_site-requires : goal.is_site-requires
is_site-requires c =
    site_room _ _ c.requires.most _ c.is_formed.ensures (c.if-not-is_formed.false) _ _ _ c.requires.says
    c.requires.listed_long
    c.requires.cores_long

pub returns : goal.returns
returns c =
    let bytes : Bytes c.args.image.now = λ j l. (c.type_inv.image j).fits in
    image_decided _ _ c.requires.most _ c.is_formed.ensures bytes c.requires.checked (c.if-not-is_formed.false) _
    c.requires.says.links_said _ _ _ c.is_site.ensures
