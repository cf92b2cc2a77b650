pub mod Lists
pub mod Layout
pub mod Rule
pub mod Put
pub mod Given
pub mod Laws
