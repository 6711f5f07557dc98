-- The walk of a link going up, from its beginning end on; what a caller has of the order; the worked case.
pub mod Walk
pub mod Results
pub mod Cases
