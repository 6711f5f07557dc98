-- The walk of a link going up (document 001, sections 5 and 6). `Front`: radios with few later neighbours are taken in their order.
-- `Beginning`: what stands before the beginning end stays, and the rest is any peel of the rest of the level. `Turns`: the walk's turns
-- are a run of the peel. `Ended`: the order and the changed radios at its end. `Kept`: what stands before the beginning end stays, by the
-- outcomes of the public calls; `Each`: so it is of each link of a batch and of a hearing. `Cases`: the worked case.
pub mod Front
pub mod Beginning
pub mod Turns
pub mod Ended
pub mod Kept
pub mod Each
pub mod Cases
